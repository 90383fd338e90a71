-- What the checker's passes carry along.
use Rattle.std.specs.Prelude.{ℕ, ◌≡◌, ◌<◌, ◌≤◌, ◌+◌, List, Some, slice_get, ⊤, All, EachIndex}
use Rattle.words.specs.declared.call.Client.{Client}
use Rattle.words.specs.declared.call.Kind.TheVariants.{Durable, Log}
use Rattle.words.specs.declared.call.Reply.{Reply}
use Rattle.words.specs.declared.limits.TheConstants.{MAX_CLIENTS}
use Rattle.words.specs.declared.told.Told.{Told}
use Rattle.events.specs.declared.event.Event.{Event}
use Rattle.events.specs.declared.event.Event.TheVariants.{Call as call_event, Return as return_event}
use Rattle.events.specs.declared.event.Event.TheVariants.{Crash as crash_event, Ready as ready_event}
use Rattle.events.specs.declared.event.Entry.{Entry}
use Rattle.events.specs.History.{BeginsAt, ReturnAt, IsEnd, IsOpenFrom, IsDown, IsUnderWay, IsDurable}
use Rattle.events.specs.Telling.{TellsAt, IsToldIfInterrupted}
use Rattle.events.specs.Explains.{IsAnswered}
use Rattle.events.specs.Orders.{IsTakenAs}

-- so it is of each event at its place
abbrev pub EachEvent : List Event → (ℕ → Event → Type 0) → Type 0
EachEvent events claim = (p : ℕ) (event : Event) → slice_get events p ≡ Some event → claim p event

-- one of the first n entries has this place
pub record HasPlace (order : List Entry) (n place : ℕ) : Type 0 where
  pub index : ℕ
  pub before : index < n
  pub entry : Entry
  pub at : slice_get order index ≡ Some entry
  pub same : entry.place ≡ place

-- the greatest place of the first n entries, 0 where there is none
pub record IsGreatest (order : List Entry) (n greatest : ℕ) : Type 0 where
  pub above : (k : ℕ) (entry : Entry) → k < n → slice_get order k ≡ Some entry → entry.place ≤ greatest
  pub one : 0 < n → HasPlace order n greatest
  pub none : n ≡ 0 → greatest ≡ 0

-- a Call or a Return is of a client from 0 to 15
abbrev pub HasClient : Event → Type 0
HasClient (call_event client number call) = client.0 < MAX_CLIENTS
HasClient (return_event client reply) = client.0 < MAX_CLIENTS
HasClient crash_event = ⊤
HasClient (ready_event told) = ⊤

-- a Call or a Return does not stand between a Crash and the next Ready
abbrev pub StandsUp : List Event → ℕ → Event → Type 0
StandsUp events p (call_event client number call) = ¬ (IsDown events p)
StandsUp events p (return_event client reply) = ¬ (IsDown events p)
StandsUp events p crash_event = ⊤
StandsUp events p (ready_event told) = ⊤

-- a Call of the client stands only while it has no call without an end, a Return only while it has one
abbrev pub StandsInTurn : List Event → Client → ℕ → Event → Type 0
StandsInTurn events client p (call_event other number call) = other ≡ client → ¬ (IsUnderWay events client p)
StandsInTurn events client p (return_event other reply) = other ≡ client → IsUnderWay events client p
StandsInTurn events client p crash_event = ⊤
StandsInTurn events client p (ready_event told) = ⊤

-- so it is at each place
pub record IsInTurn (events : List Event) (client : Client) : Type 0 where
  pub each : (p : ℕ) (event : Event) → slice_get events p ≡ Some event → StandsInTurn events client p event

-- the client's calls stand in the order in ascending places
pub record Ascends (events : List Event) (order : List Entry) (client : Client) : Type 0 where
  pub each : (i j : ℕ) (x y : Entry) → i < j → slice_get order i ≡ Some x → slice_get order j ≡ Some y
      → BeginsAt events client x.place → BeginsAt events client y.place → x.place < y.place

-- one of the first n entries is of the client's call just below `next`
pub record HasCallBefore (events : List Event) (order : List Entry) (client : Client) (n next : ℕ) : Type 0 where
  pub index : ℕ
  pub before : index < n
  pub entry : Entry
  pub at : slice_get order index ≡ Some entry
  pub begins : BeginsAt events client entry.place
  pub last : entry.place + 1 ≡ next

-- among the first n entries the client's calls stand in ascending places, all below `next`
pub record AscendsTo (events : List Event) (order : List Entry) (client : Client) (n next : ℕ) : Type 0 where
  pub each : (i j : ℕ) (x y : Entry) → i < j → j < n → slice_get order i ≡ Some x → slice_get order j ≡ Some y
      → BeginsAt events client x.place → BeginsAt events client y.place → x.place < y.place
  pub below : (i : ℕ) (x : Entry) → i < n → slice_get order i ≡ Some x → BeginsAt events client x.place
      → x.place < next
  pub one : 0 < next → HasCallBefore events order client n next

-- each complete call of the client is in the order with the reply that it returned
pub record IsAnsweredOf (events : List Event) (order : List Entry) (client : Client) : Type 0 where
  pub each : (p : ℕ) → BeginsAt events client p → IsAnswered events order p

-- the entry just before `from` is of a call of the client that ended before k
pub record HasEndedEntry (events : List Event) (order : List Entry) (client : Client) (k from : ℕ) : Type 0 where
  pub index : ℕ
  pub last : index + 1 ≡ from
  pub entry : Entry
  pub at : slice_get order index ≡ Some entry
  pub begins : BeginsAt events client entry.place
  pub end : ℕ
  pub ends : IsEnd events client entry.place end
  pub before : end < k

-- so it is of the calls that ended before k, whose entries stand before `from`; one without an end begins at `call`
pub record IsAnsweredTo (events : List Event) (order : List Entry) (client : Client) (k call from : ℕ) : Type 0 where
  pub last : IsUnderWay events client k → IsOpenFrom events client k call
  pub before : IsUnderWay events client k → call < k
  pub answered : (p e : ℕ) (reply : Reply) → e < k → BeginsAt events client p → IsEnd events client p e
      → ReturnAt events e client reply → IsTakenAs order p reply
  pub ended : 0 < from → HasEndedEntry events order client k from

-- the entry of the call at p with this reply stands just before `after`, not before `from`
pub record IsNextEntry (order : List Entry) (from p : ℕ) (reply : Reply) (after : ℕ) : Type 0 where
  pub index : ℕ
  pub last : index + 1 ≡ after
  pub entry : Entry
  pub at : slice_get order index ≡ Some entry
  pub place : entry.place ≡ p
  pub same : entry.reply ≡ reply

-- no entry of the call at p with this reply stands from `from` on
pub record HasNoEntryFrom (order : List Entry) (from p : ℕ) (reply : Reply) : Type 0 where
  pub none : (i : ℕ) (entry : Entry) → from ≤ i → slice_get order i ≡ Some entry → entry.place ≡ p
      → entry.reply ≡ reply → ⊥

-- what clients are told agrees with the order
pub record Tells (told : List Told) (events : List Event) (order : List Entry) : Type 0 where
  pub verdicts : ¬ (IsDurable events) → EachIndex events (λ q. TellsAt Log told events order q)
  pub interrupted : ¬ (IsDurable events) → All (λ entry. IsToldIfInterrupted events entry) order
  pub rows : IsDurable events → EachIndex events (λ q. TellsAt Durable told events order q)
