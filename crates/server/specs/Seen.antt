-- What is seen of a broker that is served: how many items its queues hold.
use Rattle.std.specs.Prelude.{◌≡◌, ℕ, List, Option, Some, length, slice_get}
use Rattle.gauges.specs.declared.numbers.Keeping.{Keeping}
use Rattle.gauges.specs.declared.numbers.Keeping.TheVariants.{Always as told_always, EachSecond as told_second, Never as told_never}
use Rattle.gauges.specs.declared.numbers.QueueGauges.{QueueGauges}
use Rattle.interleave.specs.State.{kept_content}
use Rattle.lasting.specs.declared.policy.Policy.{Policy}
use Rattle.lasting.specs.declared.policy.Policy.TheVariants.{Always, EachSecond, Never}
use Rattle.named.specs.Brokers.{world_at}
use Rattle.named.specs.Slots.{IfWorld}
use Rattle.session.specs.Sessions.{Sessioned}
use Rattle.workers.specs.Moments.{GoesOnLater}

-- the queue of the slot holds as many items
abbrev pub HoldsItems : Sessioned → ℕ → QueueGauges → Type 0
HoldsItems s slot seen = IfWorld (world_at s.broker slot) (λ w. seen.items ≡ length (kept_content w))

-- it does so at a session that goes on from this one
pub record IsHeldSince (first : Sessioned) (slot : ℕ) (seen : QueueGauges) : Type 0 where
  pub session : Sessioned
  pub later : GoesOnLater first session
  pub holds : HoldsItems session slot seen

-- so do all that are seen
abbrev pub AreHeldSince : Sessioned → List (Option QueueGauges) → Type 0
AreHeldSince first queues =
    (slot : ℕ) (seen : QueueGauges) → slice_get queues slot ≡ Some (Some seen) → IsHeldSince first slot seen

-- how it is told when a journal is kept
abbrev pub keeping_of : Policy → Keeping
keeping_of Always = told_always
keeping_of EachSecond = told_second
keeping_of Never = told_never
