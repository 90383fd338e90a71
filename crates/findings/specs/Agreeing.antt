-- An order by the places of its calls.
use Rattle.std.specs.Prelude.{ℕ, EachIndex, ◌≡◌, ◌<◌, ◌≤◌, ⊤, List, Option, Some, None, slice_get, length}
use Rattle.words.specs.declared.call.Reply.{Reply}
use Rattle.words.specs.declared.told.Outcome.{Outcome}
use Rattle.words.specs.declared.told.Outcome.TheVariants.{NotTaken, Taken}
use Rattle.events.specs.declared.event.Entry.{Entry}
use Rattle.events.specs.Orders.{IsNew}
use Rattle.events.specs.Telling.{IsOutcome}
use Rattle.findings.specs.Findings.{IsLearnt}
use Rattle.history.specs.Sweeps.{HasPlace}

-- what was learnt of the call at p is so in the order
pub record AgreesAt (learnt : List (Option Outcome)) (order : List Entry) (p : ℕ) : Type 0 where
  pub agrees : (outcome : Outcome) → IsLearnt learnt p outcome → IsOutcome order p outcome

-- the entry of this number names the call at p
pub record Names (order : List Entry) (k p : ℕ) : Type 0 where
  pub entry : Entry
  pub at : slice_get order k ≡ Some entry
  pub place : entry.place ≡ p

-- a table has the numbers of the first n entries at the places of their calls, and no entry's number elsewhere
pub record IsTableOf (order : List Entry) (n : ℕ) (table : List ℕ) : Type 0 where
  pub some : (p k : ℕ) → slice_get table p ≡ Some k → k < length order → (k < n) × Names order k p
  pub none : (p k : ℕ) → slice_get table p ≡ Some k → length order ≤ k → HasPlace order n p → ⊥

-- it has those of all, of which none names the call of another, at so many places
pub record IsIndexOf (order : List Entry) (places : ℕ) (table : List ℕ) : Type 0 where
  pub numbers : IsTableOf order (length order) table
  pub once : EachIndex order (λ i. IsNew order i)
  pub count : length table ≡ places

-- the outcome is that of a call with this reply in the order, or with none
abbrev pub IsAgreed : Outcome → Option Reply → Type 0
IsAgreed NotTaken None = ⊤
IsAgreed NotTaken (Some reply) = ⊥
IsAgreed (Taken reply) None = ⊥
IsAgreed (Taken reply) (Some other) = other ≡ reply
