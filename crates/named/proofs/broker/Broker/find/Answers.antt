use Rattle.std.proofs.Common.{subst}
use Rattle.std.specs.Prelude.{IfSome, IsSome}
use Rattle.named.specs.BrokerView.{broker_view}
use Rattle.named.specs.Brokers.{Brokered, world_at}
use Rattle.named.proofs.creations.Beginnings.{found_open}
use Rattle.named.proofs.broker.Broker.find.Goals as goal

pub returns-clause-open : goal.returns-clause-open
returns-clause-open c =
    let b : Brokered = broker_view c.self.inside in
    subst (λ (x : Brokered). IfSome c.find.result (λ slot. IsSome (world_at x slot.0))) c.self.view_is
    (found_open b c.find.result c.args.name.now c.self.invariant.well c.find.ensures.found)
