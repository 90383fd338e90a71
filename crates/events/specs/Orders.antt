-- Orders: entries that name calls of a history, none twice.
use Rattle.std.specs.Prelude.{ℕ, ◌≡◌, List, Some, Any, All, Contains, EachIndex, IsSome, slice_get, take}
use Rattle.words.specs.declared.call.Reply.{Reply}
use Rattle.events.specs.declared.event.Event.{Event}
use Rattle.events.specs.declared.event.Entry.{Entry}
use Rattle.events.specs.Replay.{call_at}

-- the call at the place is in the order, with this reply
abbrev pub IsTakenAs : List Entry → ℕ → Reply → Type 0
IsTakenAs order p reply = Contains order (record { place = p; reply = reply })

-- the call at the place is in the order
abbrev pub InOrder : List Entry → ℕ → Type 0
InOrder order p = Any (λ entry. entry.place ≡ p) order

-- no earlier entry has the place of the one at i
pub record IsNew (order : List Entry) (i : ℕ) : Type 0 where
  pub none : (entry : Entry) → slice_get order i ≡ Some entry → InOrder (take i order) entry.place → ⊥

-- places of Calls, none of them twice
pub record IsOrder (events : List Event) (order : List Entry) : Type 0 where
  pub calls : All (λ entry. IsSome (call_at events entry.place)) order
  pub once : EachIndex order (λ i. IsNew order i)
