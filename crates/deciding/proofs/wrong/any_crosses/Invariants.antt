use Rattle.std.proofs.Common.{ℕ, ◌<◌}
use Rattle.deciding.specs.Bad.{DoCross}
use Rattle.deciding.specs.Right.{calls_in}
use Rattle.deciding.proofs.wrong.any_crosses.Given as goal

abbrev pub invariant-loop-behind : goal.invariant-loop-behind
invariant-loop-behind l = (behind : ℕ) → behind < l.behind → DoCross (calls_in l.tables) l.ahead behind → ⊥
