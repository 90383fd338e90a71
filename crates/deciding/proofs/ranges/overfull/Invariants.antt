use Rattle.std.proofs.Common.{ℕ, ◌<◌, length}
use Rattle.windows.specs.Takes.{IsOverfull}
use Rattle.windows.proofs.Facts.{high, low, missing}
use Rattle.deciding.specs.Right.{calls_in}
use Rattle.deciding.proofs.ranges.overfull.Given as goal

abbrev pub invariant-loop-from : goal.invariant-loop-from
invariant-loop-from l = (from to : ℕ) → from < l.from → IsOverfull (length l.tables.known.items)
    (missing (calls_in l.tables)) (low (calls_in l.tables)) (high (calls_in l.tables)) from to → ⊥
