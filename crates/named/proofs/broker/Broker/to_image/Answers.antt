use Rattle.std.proofs.Common.{subst}
use Rattle.named.specs.BrokerView.{broker_view}
use Rattle.named.specs.Booting.{AreBootWords}
use Rattle.named.specs.Brokers.{Brokered}
use Rattle.named.proofs.promises.Promises.{boots_well}
use Rattle.named.proofs.broker.Broker.to_image.Goals as goal

pub returns-clause-boots : goal.returns-clause-boots
returns-clause-boots c =
    let b : Brokered = broker_view c.self.inside in
    subst (λ (x : Brokered). AreBootWords x.words.kept) c.self.view_is (boots_well b c.self.invariant.well)
