-- The queues of a session's broker go on.
use Rattle.std.proofs.Common.{◌≡◌, subst}
use Rattle.named.specs.Brokers.{Brokered}
use Rattle.named.specs.GoingOn.{BrokerGoesOn, IsDowntime}
use Rattle.session.specs.Sessions.{Sessioned}

-- so they do where the session is seen as it is
pub queues_on : (s x : Sessioned) (new : Brokered) → s ≡ x → BrokerGoesOn s.broker new → BrokerGoesOn x.broker new
queues_on s x new e on = subst (λ (y : Sessioned). BrokerGoesOn y.broker new) e on

pub downtime_on : (s x : Sessioned) (new : Brokered) → s ≡ x → IsDowntime s.broker new → IsDowntime x.broker new
downtime_on s x new e on = subst (λ (y : Sessioned). IsDowntime y.broker new) e on
