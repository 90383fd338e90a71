use Rattle.std.proofs.Common.{◌≡◌, true}
use Rattle.test_support.proofs.are_explained.Given as goal

abbrev pub invariant-loop-slot : goal.invariant-loop-slot
invariant-loop-slot l = l.right ≡ true
