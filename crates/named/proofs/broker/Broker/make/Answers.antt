use Rattle.std.proofs.Common.{◌≡◌, refl, sym, subst}
use Rattle.arena.specs.Limits.{AreCounts}
use Rattle.arena.specs.Shape.{Counts}
use Rattle.named.proofs.beginnings.NewBrokers.{new_well}
use Rattle.named.proofs.acts.Requests.{closed_asked}
use Rattle.named.proofs.promises.Promises.{promises_well}
use Rattle.named.proofs.acts.Refused.{not_done, nothing}
use Rattle.named.proofs.broker.Broker.make.Goals as goal

pub invariant_of-result : goal.invariant_of-result
invariant_of-result c =
    let made : c.in_ok-layout.layout ≡ record { clients = c.args.clients; records = c.args.records } = c.in_ok-layout.ensures.made in
    let counts : AreCounts c.in_ok-layout.layout.clients c.in_ok-layout.layout.records =
    subst (λ (k : Counts). AreCounts k.clients k.records) (sym made) (c.in_ok-layout.ensures.ok.0 refl) in
    record {
      well = new_well c.in_ok-layout.layout c.in_ok-memory.memory.words c.in_ok-slots.slots.items c.new.result counts
          c.in_ok-memory.ensures.cached c.in_ok-memory.ensures.kept c.in_ok-slots.ensures.closed c.new.ensures.free c.new.ensures.directory;
      slots = closed_asked c.in_ok-layout.layout c.in_ok-memory.memory.words c.in_ok-memory.memory c.in_ok-slots.slots.items c.in_ok-slots.ensures.closed;
      creation = tt;
    }

pub returns-clause-promises : goal.returns-clause-promises
returns-clause-promises c = promises_well _ (invariant_of-result c).well

pub returns-in_err-layout-clause-made : goal.returns-in_err-layout-clause-made
returns-in_err-layout-clause-made c = nothing _ c.from_residual.result c.in_err-layout.field-0.0 c.from_residual.ensures

pub returns-in_err-layout-clause-counts : goal.returns-in_err-layout-clause-counts
returns-in_err-layout-clause-counts c = not_done _ c.from_residual.result c.in_err-layout.field-0.0 c.from_residual.ensures

pub returns-in_err-layout-clause-promises : goal.returns-in_err-layout-clause-promises
returns-in_err-layout-clause-promises c = nothing _ c.from_residual.result c.in_err-layout.field-0.0 c.from_residual.ensures

pub returns-in_err-memory-clause-made : goal.returns-in_err-memory-clause-made
returns-in_err-memory-clause-made c = nothing _ c.from_residual-in_err-memory.result c.in_err-memory.field-0.0 c.from_residual-in_err-memory.ensures

pub returns-in_err-memory-clause-counts : goal.returns-in_err-memory-clause-counts
returns-in_err-memory-clause-counts c = not_done _ c.from_residual-in_err-memory.result c.in_err-memory.field-0.0 c.from_residual-in_err-memory.ensures

pub returns-in_err-memory-clause-promises : goal.returns-in_err-memory-clause-promises
returns-in_err-memory-clause-promises c = nothing _ c.from_residual-in_err-memory.result c.in_err-memory.field-0.0 c.from_residual-in_err-memory.ensures

pub returns-in_err-slots-clause-made : goal.returns-in_err-slots-clause-made
returns-in_err-slots-clause-made c = nothing _ c.from_residual-in_err-slots.result c.in_err-slots.field-0.0 c.from_residual-in_err-slots.ensures

pub returns-in_err-slots-clause-counts : goal.returns-in_err-slots-clause-counts
returns-in_err-slots-clause-counts c = not_done _ c.from_residual-in_err-slots.result c.in_err-slots.field-0.0 c.from_residual-in_err-slots.ensures

pub returns-in_err-slots-clause-promises : goal.returns-in_err-slots-clause-promises
returns-in_err-slots-clause-promises c = nothing _ c.from_residual-in_err-slots.result c.in_err-slots.field-0.0 c.from_residual-in_err-slots.ensures
