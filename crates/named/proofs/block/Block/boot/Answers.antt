use Rattle.std.proofs.Common.{sym, arith}
use Rattle.persist.specs.Memory.{words_in}
use Rattle.std.proofs.Common.{refl}
use Rattle.named.proofs.acts.Refused.{nothing, why}
use Rattle.named.proofs.block.Block.boot.Goals as goal

pub returns-clause-booted : goal.returns-clause-booted
returns-clause-booted c =
    c.in_ok-core.ensures.booted (words_in c.args.from c.args.len c.args.memory.now.words) (sym c.in_ok-view.ensures.words)

pub returns-clause-well : goal.returns-clause-well
returns-clause-well c = record {
  some = c.requires.some;
  inside = omega (arith, c.requires.kept);
  ports = c.requires.ports;
  holds = c.in_ok-core.ensures.holds (words_in c.args.from c.args.len c.args.memory.now.words) (sym c.in_ok-view.ensures.words);
}

pub returns-in_err-view-clause-booted : goal.returns-in_err-view-clause-booted
returns-in_err-view-clause-booted c = nothing _ c.from_residual.result c.in_err-view.field-0.0 c.from_residual.ensures

pub returns-in_err-view-clause-well : goal.returns-in_err-view-clause-well
returns-in_err-view-clause-well c = nothing _ c.from_residual.result c.in_err-view.field-0.0 c.from_residual.ensures

pub returns-in_err-view-clause-from : goal.returns-in_err-view-clause-from
returns-in_err-view-clause-from c = nothing _ c.from_residual.result c.in_err-view.field-0.0 c.from_residual.ensures

pub returns-in_err-view-clause-len : goal.returns-in_err-view-clause-len
returns-in_err-view-clause-len c = nothing _ c.from_residual.result c.in_err-view.field-0.0 c.from_residual.ensures

pub returns-in_err-view-clause-port : goal.returns-in_err-view-clause-port
returns-in_err-view-clause-port c = nothing _ c.from_residual.result c.in_err-view.field-0.0 c.from_residual.ensures

pub returns-in_err-core-clause-booted : goal.returns-in_err-core-clause-booted
returns-in_err-core-clause-booted c = nothing _ c.from_residual-in_err-core.result c.in_err-core.field-0.0 c.from_residual-in_err-core.ensures

pub returns-in_err-core-clause-well : goal.returns-in_err-core-clause-well
returns-in_err-core-clause-well c = nothing _ c.from_residual-in_err-core.result c.in_err-core.field-0.0 c.from_residual-in_err-core.ensures

pub returns-in_err-core-clause-from : goal.returns-in_err-core-clause-from
returns-in_err-core-clause-from c = nothing _ c.from_residual-in_err-core.result c.in_err-core.field-0.0 c.from_residual-in_err-core.ensures

pub returns-in_err-core-clause-len : goal.returns-in_err-core-clause-len
returns-in_err-core-clause-len c = nothing _ c.from_residual-in_err-core.result c.in_err-core.field-0.0 c.from_residual-in_err-core.ensures

pub returns-in_err-core-clause-port : goal.returns-in_err-core-clause-port
returns-in_err-core-clause-port c = nothing _ c.from_residual-in_err-core.result c.in_err-core.field-0.0 c.from_residual-in_err-core.ensures

pub returns-in_err-core-clause-errors : goal.returns-in_err-core-clause-errors
returns-in_err-core-clause-errors c = why _ c.from_residual-in_err-core.result c.in_err-core.field-0.0 c.from_residual-in_err-core.ensures c.in_err-core.ensures.errors

pub returns-clause-from : goal.returns-clause-from
returns-clause-from c = refl

pub returns-clause-len : goal.returns-clause-len
returns-clause-len c = refl

pub returns-clause-port : goal.returns-clause-port
returns-clause-port c = refl

pub returns-clause-errors : goal.returns-clause-errors
returns-clause-errors c = tt
