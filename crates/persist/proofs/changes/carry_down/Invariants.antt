use Rattle.std.proofs.Common.{◌≡◌, ◌≤◌, ◌++◌, [], ◌∷◌}
use Rattle.std.specs.List.{insert}
use Rattle.persist.proofs.changes.carry_down.Given as goal

abbrev pub invariant-loop-place : goal.invariant-loop-place
invariant-loop-place l = record {
  from : l.fn.at ≤ l.place;
  whole : insert l.entries l.place l.carried ≡ l.fn.entries ++ l.fn.entry ∷ [];
}
