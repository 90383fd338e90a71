-- How many items a queue holds, and how many clients and records it has.
use Rattle.std.specs.Prelude.{◌≡◌, ℕ, length}
use Rattle.interleave.specs.State.{kept_content}
use Rattle.named.specs.Brokers.{world_at}
use Rattle.named.specs.Slots.{IfWorld}
use Rattle.session.specs.Sessions.{Sessioned}
use Rattle.workers.specs.declared.looks.Usage.{Usage}

-- as many as there were when the seats were given
pub record IsUsageOf (clients : ℕ) (first : Sessioned) (usage : Usage) : Type 0 where
  pub clients_are : usage.clients ≡ clients
  pub records_are : usage.records ≡ first.broker.counts.records

-- it tells how many items the queue of a slot holds
abbrev pub HasItemsOf : Sessioned → ℕ → Usage → Type 0
HasItemsOf s slot usage = IfWorld (world_at s.broker slot) (λ w. usage.items ≡ length (kept_content w))
