use Rattle.std.proofs.Common.{◌≡◌}
use Rattle.std.specs.List.{insert}
use Rattle.persist.proofs.changes.carry_up.Given as goal

abbrev pub invariant-loop-place : goal.invariant-loop-place
invariant-loop-place l = insert l.entries l.place l.carried ≡ insert l.fn.entries l.fn.at l.fn.entry
