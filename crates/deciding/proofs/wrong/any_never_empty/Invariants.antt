use Rattle.std.proofs.Common.{ℕ, ◌<◌}
use Rattle.deciding.specs.Bad.{IsNeverEmpty}
use Rattle.deciding.specs.Right.{calls_in}
use Rattle.deciding.proofs.wrong.any_never_empty.Given as goal

abbrev pub invariant-loop-take : goal.invariant-loop-take
invariant-loop-take l = (take : ℕ) → take < l.take → IsNeverEmpty (calls_in l.tables) take → ⊥
