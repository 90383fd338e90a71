-- Between the clauses of an explanation and what their loops test.
use Rattle.std.proofs.Common.{ℕ, ◌<◌, ◌≤◌, List, length, arith, ⊎_elim}
use Rattle.std.proofs.lemmas.Bool.{cases_lt}
use Rattle.std.proofs.lemmas.Option.{slice_get_within}
use Rattle.events.specs.declared.event.Event.{Event}
use Rattle.events.specs.declared.event.Entry.{Entry}
use Rattle.events.specs.Explains.{KeepsPrecedence}
use Rattle.history.specs.Plainly.{IsNotAfter}

pub keeps_from_each : (events : List Event) (order : List Entry)
    → ((i : ℕ) → i < length order → (j : ℕ) → j ≤ i → IsNotAfter events order i j)
    → KeepsPrecedence events order
keeps_from_each events order each i j x y at_i at_j before =
    ⊎_elim (λ lt. lt) (λ le. absurd ((each i (slice_get_within order i x at_i) j le).none x y at_i at_j before))
    (cases_lt i j)

pub each_from_keeps : (events : List Event) (order : List Entry) → KeepsPrecedence events order → (i j : ℕ)
    → j ≤ i → IsNotAfter events order i j
each_from_keeps events order keeps i j le = record {
  none = λ x y at_i at_j before. let lt : i < j =
      keeps i j x y at_i at_j before in absurd (omega arith);
}
