use Rattle.std.proofs.Common.{ℕ, ◌<◌, ◌≤◌}
use Rattle.windows.proofs.Facts.{IsClear}
use Rattle.deciding.specs.Right.{calls_in}
use Rattle.deciding.proofs.empties.clear_within.Given as goal

abbrev pub invariant-loop-place : goal.invariant-loop-place
invariant-loop-place l = (place : ℕ) → l.from ≤ place → place < l.place → IsClear (calls_in l.tables) place → ⊥
