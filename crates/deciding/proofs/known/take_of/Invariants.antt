use Rattle.std.proofs.Common.{◌≡◌, ℕ, ◌<◌}
use Rattle.windows.specs.Calls.{took}
use Rattle.deciding.specs.Table.{calls_by}
use Rattle.deciding.proofs.known.take_of.Given as goal

abbrev pub invariant-loop-place : goal.invariant-loop-place
invariant-loop-place l = (s : ℕ) → s < l.place → (calls_by l.known l.ends).known s ≡ took l.put → ⊥
