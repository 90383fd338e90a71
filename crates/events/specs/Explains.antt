-- When an order explains a history.
use Rattle.std.specs.Prelude.{ℕ, EachIndex, ◌≡◌, ◌<◌, List, Some, slice_get, All}
use Rattle.words.specs.PlainQueue.{Value}
use Rattle.words.specs.declared.call.Client.{Client}
use Rattle.words.specs.declared.call.Kind.TheVariants.{Durable, Log}
use Rattle.words.specs.declared.call.Reply.{Reply}
use Rattle.words.specs.declared.told.Told.{Told}
use Rattle.events.specs.declared.event.Event.{Event}
use Rattle.events.specs.declared.event.Entry.{Entry}
use Rattle.events.specs.declared.event.History.{History}
use Rattle.events.specs.declared.event.Order.{Order}
use Rattle.events.specs.Orders.{IsTakenAs, IsOrder}
use Rattle.events.specs.Replay.{Replays}
use Rattle.events.specs.History.{ReturnAt, BeginsAt, IsEnd, Precedes, IsDurable, IsHistory}
use Rattle.events.specs.Telling.{TellsAt, IsToldIfInterrupted}

-- the call at p, if it is complete, is in the order with the reply that it returned
pub record IsAnswered (events : List Event) (order : List Entry) (p : ℕ) : Type 0 where
  pub taken : (e : ℕ) (client : Client) (reply : Reply) → BeginsAt events client p → IsEnd events client p e
      → ReturnAt events e client reply → IsTakenAs order p reply

-- where one call precedes another, it stands before it in the order
abbrev pub KeepsPrecedence : List Event → List Entry → Type 0
KeepsPrecedence events order =
    (i j : ℕ) (x y : Entry) → slice_get order i ≡ Some x → slice_get order j ≡ Some y
    → Precedes events x.place y.place → i < j

-- the order explains the history that begins with this base, of which clients were told this
pub record Explains (base : List Value) (told : List Told) (events : List Event) (order : List Entry) : Type 0 where
  pub is_order : IsOrder events order
  pub answers : EachIndex events (λ p. IsAnswered events order p)
  pub replays : Replays events base order
  pub precedence : KeepsPrecedence events order
  -- at each Ready each client of a log queue is told of its last call
  pub verdicts : ¬ (IsDurable events) → EachIndex events (λ q. TellsAt Log told events order q)
  -- an interrupted call of a log queue is in the order only if the next Ready tells so
  pub interrupted : ¬ (IsDurable events) → All (λ entry. IsToldIfInterrupted events entry) order
  -- at each Ready each client of a durable queue is told of its last dequeue
  pub rows : IsDurable events → EachIndex events (λ q. TellsAt Durable told events order q)

-- the history may arise, and the order explains it
pub record IsExplained (history : History) (order : Order) : Type 0 where
  pub arises : IsHistory history.events.items
  pub explains : Explains history.base.items history.told history.events.items order.entries.items
