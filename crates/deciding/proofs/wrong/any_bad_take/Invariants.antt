use Rattle.std.proofs.Common.{ℕ, ◌<◌}
use Rattle.deciding.specs.Bad.{IsBadTake}
use Rattle.deciding.specs.Right.{calls_in}
use Rattle.deciding.proofs.wrong.any_bad_take.Given as goal

abbrev pub invariant-loop-take : goal.invariant-loop-take
invariant-loop-take l = (take : ℕ) → take < l.take → IsBadTake (calls_in l.tables) take → ⊥
