-- The queue by its front: what is left of the base, and what the entries from the front on put into it.
use Rattle.std.specs.Prelude.{ℕ, ◌≡◌, ◌≤◌, List, ◌++◌, Option, Some, None, length, take, drop, option_to_list}
use Rattle.words.specs.PlainQueue.{Value}
use Rattle.words.specs.declared.call.Reply.{Reply}
use Rattle.words.specs.declared.call.Reply.TheVariants.{Got, Empty}
use Rattle.events.specs.declared.event.Event.{Event}
use Rattle.events.specs.declared.event.Entry.{Entry}
use Rattle.history.specs.Counting.{values_of_order}
use Rattle.history.specs.declared.fronts.Fronts.{Fronts}
use Rattle.events.specs.Replay.{queue_after}

-- the values that the entries from one place up to another put into the queue
abbrev pub values_between : List Event → List Entry → ℕ → ℕ → List Value
values_between events order from to = values_of_order events (drop from (take to order))

-- what the queue holds before the entry at `to`
abbrev pub queue_from : List Event → List Value → List Entry → ℕ → ℕ → ℕ → List Value
queue_from events base order taken from to = drop taken base ++ values_between events order from to

-- so it is where its front stands there
abbrev pub queue_at : List Event → List Value → List Entry → Fronts → ℕ → List Value
queue_at events base order fronts to = queue_from events base order fronts.base fronts.entry to

-- this is the first value that the entries from one place up to another put into the queue, and those from `after` on
-- put the rest; with no value, those from `after` on put what all of them do
abbrev pub IsFirstPut : List Event → List Entry → ℕ → ℕ → Option Value → ℕ → Type 0
IsFirstPut events order from to value after =
    values_between events order from to ≡ option_to_list value ++ values_between events order after to

-- this is the first value that the queue holds before the entry at `to`, and past it the front stands at `after`; with
-- no value, what the queue holds is the same from either front
abbrev pub IsFirstHeld : List Event → List Value → List Entry → Fronts → ℕ → Option Value → Fronts → Type 0
IsFirstHeld events base order fronts to value after =
    queue_at events base order fronts to ≡ option_to_list value ++ queue_at events base order after to

-- what a dequeue answers whose queue has this front
abbrev pub reply_of_front : Option Value → Reply
reply_of_front None = Empty
reply_of_front (Some value) = Got value

-- before the entry at i the queue is what is held from this front on
pub record IsFront (events : List Event) (base : List Value) (order : List Entry) (taken from i : ℕ) : Type 0 where
  pub few : taken ≤ length base
  pub below : from ≤ i
  pub queue : queue_after events base (take i order) ≡ queue_from events base order taken from i
