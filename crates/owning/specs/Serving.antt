-- What a desk that has its session for itself has served.
use Rattle.std.specs.Prelude.{◌≡◌, List, [], ◌∷◌}
use Rattle.chronicle.specs.Chronicled.{Chronicled, entries}
use Rattle.wire.specs.declared.answer.Answer.{Answer}
use Rattle.wire.specs.declared.request.Request.{Request}
use Rattle.named.specs.GoingOn.{BrokerGoesOn}
use Rattle.session.specs.Keeping.{SessionGoesOn}
use Rattle.session.specs.Promises.{KeepsNumbers}
use Rattle.session.specs.Sessions.{Sessioned}
use Rattle.desk.specs.Serving.{AreAnswered}
use Rattle.owning.specs.Answers.{IsAnswered}

-- the requests, made one after another, lead from the one session to the other, and each was answered so
abbrev pub Leads : Sessioned → List (Request × Answer) → Sessioned → Type 0
Leads first [] last = last ≡ first
Leads first ((request, answer) ∷ more) last =
    (next : Sessioned) × IsAnswered first next request answer × Leads next more last

-- what is settled stays so, the queues and their histories go on, and no number took effect twice
pub record GoesOnRight (old new : Sessioned) : Type 0 where
  pub numbers : SessionGoesOn old new
  pub queues : BrokerGoesOn old.broker new.broker
  pub promises : KeepsNumbers new

-- a session, and the requests that were served with it, of which some are settled
pub record Owned : Type 0 where
  pub session : Sessioned
  pub served : Chronicled (Request × Answer)

-- so it stands with a desk that began with this session
pub record IsOwned (first : Sessioned) (desk : Owned) : Type 0 where
  pub leads : Leads first (entries desk.served) desk.session
  pub answered : AreAnswered first.broker.counts.clients (entries desk.served)
  pub goes_on : GoesOnRight first desk.session
