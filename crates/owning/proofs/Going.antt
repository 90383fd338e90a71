-- A session goes on rightly over requests.
use Rattle.named.specs.GoingOn.{BrokerGoesOn}
use Rattle.named.proofs.Facts.{broker_goes_further, broker_stays}
use Rattle.session.specs.Keeping.{SessionGoesOn}
use Rattle.session.specs.Promises.{KeepsNumbers}
use Rattle.session.specs.Sessions.{Sessioned}
use Rattle.workers.proofs.Facts.{session_further, session_stays}
use Rattle.owning.specs.Serving.{GoesOnRight}

-- over no act
pub stays_right : (s : Sessioned) → KeepsNumbers s → GoesOnRight s s
stays_right s keeps = record {
  numbers = session_stays s;
  queues = broker_stays s.broker;
  promises = keeps;
}

-- over one act, as its contract says
pub goes_right : (old new : Sessioned) → SessionGoesOn old new → BrokerGoesOn old.broker new.broker → KeepsNumbers new
    → GoesOnRight old new
goes_right old new numbers queues promises = record { numbers = numbers; queues = queues; promises = promises }

-- and over two after one another
pub goes_further : (old now new : Sessioned) → GoesOnRight old now → GoesOnRight now new → GoesOnRight old new
goes_further old now new one other = record {
  numbers = session_further old now new one.numbers other.numbers;
  queues = broker_goes_further old.broker now.broker new.broker one.queues other.queues;
  promises = other.promises;
}
