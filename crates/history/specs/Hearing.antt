-- What a client's pass over the Readys carries along.
use Rattle.std.specs.Prelude.{ℕ, ◌≡◌, ◌<◌, ◌≤◌, ◌+◌, ◌⊎◌, List, Option, Some, None, slice_get, length, EachIndex}
use Rattle.words.specs.declared.call.Client.{Client}
use Rattle.words.specs.declared.call.Kind.{Kind}
use Rattle.words.specs.declared.call.Kind.TheVariants.{Durable, Log}
use Rattle.words.specs.declared.call.Reply.{Reply}
use Rattle.words.specs.declared.call.Reply.TheVariants.{Got, Empty}
use Rattle.words.specs.declared.limits.TheConstants.{MAX_CLIENTS}
use Rattle.words.specs.declared.told.Outcome.{Outcome}
use Rattle.words.specs.declared.told.Outcome.TheVariants.{NotTaken, Taken}
use Rattle.words.specs.declared.told.Row.{Row}
use Rattle.words.specs.declared.told.Row.TheVariants.{NoCall, Open, Empty as row_empty, Got as row_got}
use Rattle.words.specs.declared.told.Told.{Told}
use Rattle.words.specs.declared.told.Told.TheVariants.{None as told_none, Verdict as told_verdict, Row as told_row}
use Rattle.events.specs.declared.event.Event.{Event}
use Rattle.events.specs.declared.event.Entry.{Entry}
use Rattle.events.specs.History.{BeginsAt, ReadyAt}
use Rattle.events.specs.Telling.{BeginsTold, HasNoneTaken, IsToldSome, IsToldBase}

-- the outcome is that the call took effect with this reply
abbrev pub IsOutcomeTaken : Reply → Outcome → Type 0
IsOutcomeTaken reply (Taken other) = other ≡ reply
IsOutcomeTaken reply NotTaken = ⊥

-- the row is that of a call with this reply
abbrev pub IsRowTaken : Reply → Row → Type 0
IsRowTaken reply (row_got value) = reply ≡ Got value
IsRowTaken reply row_empty = reply ≡ Empty
IsRowTaken reply Open = ⊥
IsRowTaken reply NoCall = ⊥

-- what is told says of a call with this number that it took effect with this reply
abbrev pub SaysTaken : Kind → ℕ → Reply → Told → Type 0
SaysTaken Log number reply (told_verdict verdict) = (verdict.number ≡ number) × IsOutcomeTaken reply verdict.outcome
SaysTaken Log number reply (told_row row) = ⊥
SaysTaken Log number reply told_none = ⊥
SaysTaken Durable number reply (told_row row) = IsRowTaken reply row
SaysTaken Durable number reply (told_verdict verdict) = ⊥
SaysTaken Durable number reply told_none = ⊥

-- what is told says of a call with this number that it took no effect
abbrev pub SaysNotTaken : Kind → ℕ → Told → Type 0
SaysNotTaken Log number (told_verdict verdict) = (verdict.number ≡ number) × (verdict.outcome ≡ NotTaken)
SaysNotTaken Log number (told_row row) = ⊥
SaysNotTaken Log number told_none = ⊥
SaysNotTaken Durable number (told_row row) = row ≡ Open
SaysNotTaken Durable number (told_verdict verdict) = ⊥
SaysNotTaken Durable number told_none = ⊥

-- a call of the client that it may be told of begins at p, and what is told says that it took no effect
pub record IsToldNotTaken (kind : Kind) (events : List Event) (client : Client) (told : Told) (p : ℕ) : Type 0 where
  pub number : ℕ
  pub begins : BeginsTold kind events client p number
  pub says : SaysNotTaken kind number told

-- so it is at some place
pub record IsToldNotTakenIn (kind : Kind) (events : List Event) (client : Client) (told : Told)
    (from to : ℕ) : Type 0 where
  pub place : ℕ
  pub after : from ≤ place
  pub before : place < to
  pub tells : IsToldNotTaken kind events client told place

-- the entry at i is of a call of the client that it may be told of, just before `from`
pub record IsLastEntry (kind : Kind) (events : List Event) (order : List Entry) (client : Client)
    (from i : ℕ) : Type 0 where
  pub entry : Entry
  pub at : slice_get order i ≡ Some entry
  pub number : ℕ
  pub begins : BeginsTold kind events client entry.place number
  pub next : entry.place + 1 ≡ from

-- the client's last call in the order so far, which begins just before `from`, if there is one
abbrev pub IsLast : Kind → List Event → List Entry → Client → ℕ → Option ℕ → Type 0
IsLast kind events order client from (Some i) = IsLastEntry kind events order client from i
IsLast kind events order client from None = from ≡ 0

-- what is told says what became of that call
pub record SaysLast (kind : Kind) (events : List Event) (order : List Entry) (client : Client) (told : Told)
    (i : ℕ) : Type 0 where
  pub entry : Entry
  pub at : slice_get order i ≡ Some entry
  pub number : ℕ
  pub begins : BeginsTold kind events client entry.place number
  pub says : SaysTaken kind number entry.reply told

-- there is such a last call, and what is told says what became of it
pub record IsSaidLast (kind : Kind) (events : List Event) (order : List Entry) (client : Client) (told : Told)
    (last : Option ℕ) : Type 0 where
  pub index : ℕ
  pub is : last ≡ Some index
  pub says : SaysLast kind events order client told index

-- before the Ready at q the client's last call in the order is this
pub record IsProgress (kind : Kind) (events : List Event) (order : List Entry) (client : Client) (q from : ℕ)
    (last : Option ℕ) : Type 0 where
  pub low : from ≤ q
  pub is_last : IsLast kind events order client from last
  pub none : HasNoneTaken kind events order client from q

-- so it is of the first n entries, none of which begins at `from` or later
pub record IsProgressTo (kind : Kind) (events : List Event) (order : List Entry) (client : Client) (q from : ℕ)
    (last : Option ℕ) (n : ℕ) : Type 0 where
  pub low : from ≤ q
  pub is_last : IsLast kind events order client from last
  pub below : (i : ℕ) (entry : Entry) (number : ℕ) → i < n → slice_get order i ≡ Some entry
      → BeginsTold kind events client entry.place number → entry.place < from
  pub first : (i : ℕ) → last ≡ Some i → i < n

-- no call of the client that it may be told of begins from one place up to another
pub record HasNoCall (kind : Kind) (events : List Event) (client : Client) (from to : ℕ) : Type 0 where
  pub none : (p number : ℕ) → from ≤ p → p < to → BeginsTold kind events client p number → ⊥

-- the client is told rightly by a Ready that stands at q
pub record IsToldAt (kind : Kind) (base : List Told) (events : List Event) (order : List Entry)
    (client : Client) (q : ℕ) : Type 0 where
  pub each : (tells : List Told) (told : Told) → ReadyAt events q tells → slice_get tells client.0 ≡ Some told
      → IsToldSome kind events order client q told ⊎ IsToldBase kind base events order client q told

-- so it is of each Ready
pub record IsToldOfAll (kind : Kind) (base : List Told) (events : List Event) (order : List Entry)
    (client : Client) : Type 0 where
  pub each : EachIndex events (λ q. IsToldAt kind base events order client q)

-- some call of the client that it may be told of begins at p
pub record BeginsSomeTold (kind : Kind) (events : List Event) (client : Client) (p : ℕ) : Type 0 where
  pub number : ℕ
  pub begins : BeginsTold kind events client p number

-- the entry at i is of a call of the client that begins at q or later
pub record IsLaterEntry (events : List Event) (order : List Entry) (client : Client) (q i : ℕ) : Type 0 where
  pub entry : Entry
  pub at : slice_get order i ≡ Some entry
  pub begins : BeginsAt events client entry.place
  pub late : q ≤ entry.place

-- a Ready that stands at q tells sixteen clients
pub record TellsSixteen (events : List Event) (q : ℕ) : Type 0 where
  pub sixteen : (tells : List Told) → ReadyAt events q tells → length tells ≡ MAX_CLIENTS
