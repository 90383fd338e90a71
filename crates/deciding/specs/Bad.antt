-- What is wrong with values that came out.
use Rattle.std.specs.Prelude.{ℕ, ◌≡◌, ◌<◌, ◌≤◌, ◌⊎◌}
use Rattle.windows.specs.Calls.{Calls, put_not, took, found_nothing}
use Rattle.windows.proofs.Facts.{IsClear, take_of}

-- a take that got the value of a put that cannot stand before it, or that another take got
abbrev pub IsBadSource : Calls → ℕ → ℕ → Type 0
IsBadSource calls t v = (calls.known v ≡ put_not) ⊎ ((calls.end t < v) ⊎ (take_of calls v ≡ t → ⊥))

abbrev pub IsBadTake : Calls → ℕ → Type 0
IsBadTake calls t = (v : ℕ) × ((calls.known t ≡ took v) × IsBadSource calls t v)

-- a value that was put behind another one, and came out before it
abbrev pub DoCross : Calls → ℕ → ℕ → Type 0
DoCross calls v w =
    ((take_of calls v < calls.places) × (take_of calls w < calls.places))
    × ((calls.end v < w) × (calls.end (take_of calls w) < take_of calls v))

-- a take that found nothing, with no place at which the queue can have been empty
abbrev pub IsNeverEmpty : Calls → ℕ → Type 0
IsNeverEmpty calls e =
    (calls.known e ≡ found_nothing)
    × ((place : ℕ) → e ≤ place → place < calls.end e → IsClear calls place → ⊥)
