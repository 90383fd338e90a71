use Rattle.std.proofs.Common.{ℕ, ◌<◌, length}
use Rattle.windows.specs.Takes.{IsOverfull}
use Rattle.windows.proofs.Facts.{high, low, missing}
use Rattle.deciding.specs.Right.{calls_in}
use Rattle.deciding.proofs.ranges.overfull_from.Given as goal

abbrev pub invariant-loop-to : goal.invariant-loop-to
invariant-loop-to l = (to : ℕ) → to < l.to → IsOverfull (length l.tables.known.items) (missing (calls_in l.tables))
    (low (calls_in l.tables)) (high (calls_in l.tables)) l.from to → ⊥
