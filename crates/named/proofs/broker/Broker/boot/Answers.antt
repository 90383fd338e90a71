use Rattle.std.proofs.Common.{◌≡◌, refl, sym, subst}
use Rattle.persist.specs.Memory.{Words}
use Rattle.named.proofs.beginnings.Boots.{booted_crashed}
use Rattle.std.proofs.Common.{ap}
use Rattle.named.specs.Booting.{AreBootWords}
use Rattle.named.proofs.acts.Refused.{done, not_done, nothing}
use Rattle.named.proofs.broker.Broker.boot.Goals as goal

pub begin-requires-clause-read : goal.begin-requires-clause-read
begin-requires-clause-read c = record {
  crashed = subst (λ (ws : Words). ws.cached ≡ ws.kept) (sym c.crash.ensures.words) refl;
  broker = c.in_ok-check_blocks.ensures.sound.broker;
  counts_are = c.in_ok-kept.ensures.layout;
  directory_is = c.in_ok-kept.ensures.directory;
}

pub returns-clause-booted : goal.returns-clause-booted
returns-clause-booted c =
    booted_crashed c.args.memory.words c.crash.new.self.words c.begin.result c.crash.ensures.words c.begin.ensures.booted

pub returns-in_err-kept-clause-booted : goal.returns-in_err-kept-clause-booted
returns-in_err-kept-clause-booted c = nothing _ c.from_residual.result c.in_err-kept.field-0.0 c.from_residual.ensures

pub returns-in_err-kept-clause-sound : goal.returns-in_err-kept-clause-sound
returns-in_err-kept-clause-sound c = not_done _ c.from_residual.result c.in_err-kept.field-0.0 c.from_residual.ensures

pub returns-in_err-kept-clause-promises : goal.returns-in_err-kept-clause-promises
returns-in_err-kept-clause-promises c = nothing _ c.from_residual.result c.in_err-kept.field-0.0 c.from_residual.ensures

pub returns-in_err-check_blocks-clause-booted : goal.returns-in_err-check_blocks-clause-booted
returns-in_err-check_blocks-clause-booted c = nothing _ c.from_residual-in_err-check_blocks.result c.in_err-check_blocks.field-0.0 c.from_residual-in_err-check_blocks.ensures

pub returns-in_err-check_blocks-clause-sound : goal.returns-in_err-check_blocks-clause-sound
returns-in_err-check_blocks-clause-sound c = not_done _ c.from_residual-in_err-check_blocks.result c.in_err-check_blocks.field-0.0 c.from_residual-in_err-check_blocks.ensures

pub returns-in_err-check_blocks-clause-promises : goal.returns-in_err-check_blocks-clause-promises
returns-in_err-check_blocks-clause-promises c = nothing _ c.from_residual-in_err-check_blocks.result c.in_err-check_blocks.field-0.0 c.from_residual-in_err-check_blocks.ensures

pub begin-requires-clause-sound : goal.begin-requires-clause-sound
begin-requires-clause-sound c = c.in_ok-check_blocks.ensures.sound

pub returns-clause-sound : goal.returns-clause-sound
returns-clause-sound c = done _ c.begin.result (subst AreBootWords (ap (λ (ws : Words). ws.kept) c.crash.ensures.words) c.in_ok-check_blocks.ensures.sound)

pub returns-clause-promises : goal.returns-clause-promises
returns-clause-promises c = c.begin.ensures.promises
