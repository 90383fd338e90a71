use Rattle.std.proofs.Common.{ℕ, ◌<◌}
use Rattle.deciding.specs.Right.{calls_in}
use Rattle.deciding.specs.Covered.{IsCovered}
use Rattle.deciding.proofs.empties.is_covered.Given as goal

abbrev pub invariant-loop-put : goal.invariant-loop-put
invariant-loop-put l = (put : ℕ) → put < l.put → IsCovered (calls_in l.tables) put l.place → ⊥
