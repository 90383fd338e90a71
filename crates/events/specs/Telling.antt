-- What clients are told at a Ready.
use Rattle.std.specs.Prelude.{ℕ, ◌≡◌, ◌<◌, ◌≤◌, ◌+◌, ◌⊎◌, ⊤, List, Some, slice_get}
use Rattle.words.specs.declared.call.Call.{Call}
use Rattle.words.specs.declared.call.Call.TheVariants.{Enq, Deq}
use Rattle.words.specs.declared.call.Client.{Client}
use Rattle.words.specs.declared.call.Kind.{Kind}
use Rattle.words.specs.declared.call.Kind.TheVariants.{Durable, Log}
use Rattle.words.specs.declared.call.Reply.{Reply}
use Rattle.words.specs.declared.call.Reply.TheVariants.{Got, Empty}
use Rattle.words.specs.declared.told.Outcome.{Outcome}
use Rattle.words.specs.declared.told.Outcome.TheVariants.{NotTaken, Taken}
use Rattle.words.specs.declared.told.Row.{Row}
use Rattle.words.specs.declared.told.Row.TheVariants.{NoCall, Open, Empty as row_empty, Got as row_got}
use Rattle.words.specs.declared.told.Told.{Told}
use Rattle.words.specs.declared.told.Told.TheVariants.{None as told_none, Verdict as told_verdict, Row as told_row}
use Rattle.events.specs.declared.event.Event.{Event}
use Rattle.events.specs.declared.event.Entry.{Entry}
use Rattle.events.specs.History.{CallAt, CrashAt, ReadyAt, IsEnd}
use Rattle.events.specs.Orders.{IsTakenAs, InOrder}

-- a client of a durable queue is told of its dequeues, one of a log queue of all its calls
abbrev pub IsToldOf : Kind → Call → Type 0
IsToldOf Durable Deq = ⊤
IsToldOf Durable (Enq value) = ⊥
IsToldOf Log call = ⊤

-- a call of the client that it may be told of, with its number, begins at p
pub record BeginsTold (kind : Kind) (events : List Event) (client : Client) (p number : ℕ) : Type 0 where
  pub call : Call
  pub begins : CallAt events p client number call
  pub told_of : IsToldOf kind call

-- so it is, and it is in the order
pub record BeginsTaken (kind : Kind) (events : List Event) (order : List Entry) (client : Client)
    (p : ℕ) : Type 0 where
  pub number : ℕ
  pub begins : BeginsTold kind events client p number
  pub taken : InOrder order p

-- none of these calls from one place up to another is in the order
pub record HasNoneTaken (kind : Kind) (events : List Event) (order : List Entry) (client : Client)
    (from to : ℕ) : Type 0 where
  pub none : (p : ℕ) → from ≤ p → p < to → BeginsTaken kind events order client p → ⊥

-- the outcome says what became of the call at p
abbrev pub IsOutcome : List Entry → ℕ → Outcome → Type 0
IsOutcome order p (Taken reply) = IsTakenAs order p reply
IsOutcome order p NotTaken = InOrder order p → ⊥

-- the row says what became of the dequeue at p
abbrev pub IsRow : List Entry → ℕ → Row → Type 0
IsRow order p (row_got value) = IsTakenAs order p (Got value)
IsRow order p row_empty = IsTakenAs order p Empty
IsRow order p Open = InOrder order p → ⊥
IsRow order p NoCall = ⊥

-- what is told says what became of the call at p with this number
abbrev pub Says : Kind → List Entry → ℕ → ℕ → Told → Type 0
Says Log order p number (told_verdict verdict) = (verdict.number ≡ number) × IsOutcome order p verdict.outcome
Says Log order p number (told_row row) = ⊥
Says Log order p number told_none = ⊥
Says Durable order p number (told_row row) = IsRow order p row
Says Durable order p number (told_verdict verdict) = ⊥
Says Durable order p number told_none = ⊥

-- the client is told of its call at p, and no later one before the Ready is in the order
pub record IsToldCall (kind : Kind) (events : List Event) (order : List Entry) (client : Client) (ready : ℕ)
    (told : Told) (p : ℕ) : Type 0 where
  pub number : ℕ
  pub begins : BeginsTold kind events client p number
  pub last : HasNoneTaken kind events order client (p + 1) ready
  pub says : Says kind order p number told

-- the client is told of one of its calls begun before the Ready
pub record IsToldSome (kind : Kind) (events : List Event) (order : List Entry) (client : Client) (ready : ℕ)
    (told : Told) : Type 0 where
  pub place : ℕ
  pub before : place < ready
  pub tells : IsToldCall kind events order client ready told place

-- none of the client's calls before the Ready is in the order, and it is told what the base tells
pub record IsToldBase (kind : Kind) (base : List Told) (events : List Event) (order : List Entry)
    (client : Client) (ready : ℕ) (told : Told) : Type 0 where
  pub none : HasNoneTaken kind events order client 0 ready
  pub same : slice_get base client.0 ≡ Some told

-- each client is told the one or the other by what a Ready at q tells
pub record TellsRightly (kind : Kind) (base : List Told) (events : List Event) (order : List Entry) (q : ℕ)
    (tells : List Told) : Type 0 where
  pub each : (client : Client) (told : Told) → slice_get tells client.0 ≡ Some told
      → IsToldSome kind events order client q told ⊎ IsToldBase kind base events order client q told

-- so it is where a Ready stands at q
pub record TellsAt (kind : Kind) (base : List Told) (events : List Event) (order : List Entry) (q : ℕ) : Type 0 where
  pub told : (tells : List Told) → ReadyAt events q tells → TellsRightly kind base events order q tells

-- the Ready at q is the next after e
pub record IsNextReady (events : List Event) (e q : ℕ) (tells : List Told) : Type 0 where
  pub after : e < q
  pub ready : ReadyAt events q tells
  pub first : (k : ℕ) (other : List Told) → e < k → k < q → ReadyAt events k other → ⊥

-- the next Ready after e, where there is one, tells the client that the call took effect
pub record IsToldTaken (events : List Event) (client : Client) (number : ℕ) (reply : Reply) (e : ℕ) : Type 0 where
  pub told : (q : ℕ) (tells : List Told) → IsNextReady events e q tells
      → slice_get tells client.0 ≡ Some (told_verdict (record { number = number; outcome = Taken reply }))

-- so it is where a Crash ended the call of the entry
pub record IsToldIfInterrupted (events : List Event) (entry : Entry) : Type 0 where
  pub told : (client : Client) (number e : ℕ) (call : Call)
      → CallAt events entry.place client number call
      → IsEnd events client entry.place e
      → CrashAt events e
      → IsToldTaken events client number entry.reply e
