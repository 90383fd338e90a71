-- What the replay on the plain queue is, by counting: what was put so far, without the first few.
use Rattle.std.specs.Prelude.{ℕ, List, [], ◌∷◌, Option, Some, None}
use Rattle.std.specs.List.{flat_map}
use Rattle.words.specs.PlainQueue.{Value}
use Rattle.words.specs.declared.call.Call.{Call}
use Rattle.words.specs.declared.call.Call.TheVariants.{Enq, Deq}
use Rattle.words.specs.declared.call.Reply.{Reply}
use Rattle.words.specs.declared.call.Reply.TheVariants.{Done, Got, Empty}
use Rattle.events.specs.declared.event.Event.{Event}
use Rattle.events.specs.declared.event.Entry.{Entry}
use Rattle.events.specs.Replay.{call_at}

-- the values that a call puts into the queue
abbrev pub values_of_call : Option Call → List Value
values_of_call (Some (Enq value)) = value ∷ []
values_of_call (Some Deq) = []
values_of_call None = []

-- the values that these calls put into the queue
abbrev pub values_of_order : List Event → List Entry → List Value
values_of_order events order = flat_map (λ entry. values_of_call (call_at events entry.place)) order

-- how many values a reply takes out of the queue
abbrev pub dequeue_count : Reply → ℕ
dequeue_count (Got value) = 1
dequeue_count Done = 0
dequeue_count Empty = 0
