use Rattle.std.proofs.Common.{ℕ, ◌<◌, length}
use Rattle.deciding.specs.Bad.{DoCross}
use Rattle.deciding.specs.Right.{calls_in}
use Rattle.deciding.proofs.wrong.any_two_cross.Given as goal

abbrev pub invariant-loop-ahead : goal.invariant-loop-ahead
invariant-loop-ahead l = (ahead behind : ℕ) → ahead < l.ahead → behind < length l.tables.known.items
    → DoCross (calls_in l.tables) ahead behind → ⊥
