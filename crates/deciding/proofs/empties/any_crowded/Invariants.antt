use Rattle.std.proofs.Common.{ℕ, ◌<◌, length}
use Rattle.windows.specs.Moments.{IsCrowded}
use Rattle.windows.proofs.Facts.{begun_by, low, missing}
use Rattle.deciding.specs.Right.{calls_in}
use Rattle.deciding.proofs.empties.any_crowded.Given as goal

abbrev pub invariant-loop-from : goal.invariant-loop-from
invariant-loop-from l = (from : ℕ) → from < l.from → IsCrowded (length l.tables.known.items)
    (missing (calls_in l.tables)) (low (calls_in l.tables)) (calls_in l.tables).end (begun_by (calls_in l.tables)) from
    l.place → ⊥
