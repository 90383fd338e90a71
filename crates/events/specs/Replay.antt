-- The replay of an order on the plain queue.
use Rattle.std.specs.Prelude.{ℕ, ◌≡◌, ◌<◌, List, Option, Some, None, slice_get, take, fold, length, EachIndex}
use Rattle.words.specs.declared.call.Call.{Call}
use Rattle.words.specs.PlainQueue.{Value, reply_of, served}
use Rattle.events.specs.declared.event.Event.{Event}
use Rattle.events.specs.declared.event.Event.TheVariants.{Call as call_event, Return as return_event}
use Rattle.events.specs.declared.event.Event.TheVariants.{Crash as crash_event, Ready as ready_event}
use Rattle.events.specs.declared.event.Entry.{Entry}

-- the call that an event begins, if it begins one
abbrev pub call_of : Option Event → Option Call
call_of (Some (call_event client number call)) = Some call
call_of (Some (return_event client reply)) = None
call_of (Some crash_event) = None
call_of (Some (ready_event told)) = None
call_of None = None

-- the call that begins at the place, if one does
abbrev pub call_at : List Event → ℕ → Option Call
call_at events p = call_of (slice_get events p)

-- what a call leaves of the queue, if there is one
abbrev pub queue_after_call : List Value → Option Call → List Value
queue_after_call queue (Some call) = served queue call
queue_after_call queue None = queue

-- what the entries' calls leave of the queue, one after another
abbrev pub queue_after : List Event → List Value → List Entry → List Value
queue_after events base order = fold (λ queue entry. queue_after_call queue (call_at events entry.place)) base order

-- the entry names a call, and has the plain queue's reply to it
pub record IsServed (events : List Event) (queue : List Value) (entry : Entry) : Type 0 where
  pub call : Call
  pub names : call_at events entry.place ≡ Some call
  pub reply : entry.reply ≡ reply_of queue call

-- so it is of the entry at i, after those before it
pub record IsRightAt (events : List Event) (base : List Value) (order : List Entry) (i : ℕ) : Type 0 where
  pub served : (entry : Entry) → slice_get order i ≡ Some entry
      → IsServed events (queue_after events base (take i order)) entry

-- the replay from the base gives every reply in the order
abbrev pub Replays : List Event → List Value → List Entry → Type 0
Replays events base order = EachIndex order (λ i. IsRightAt events base order i)

-- the first entry that names no call or has another reply stands at i
pub record IsFirstWrong (events : List Event) (base : List Value) (order : List Entry) (i : ℕ) : Type 0 where
  pub within : i < length order
  pub before : (k : ℕ) → k < i → IsRightAt events base order k
  pub wrong : IsRightAt events base order i → ⊥
