use Rattle.std.proofs.Common.{ℕ, ◌<◌}
use Rattle.directory.specs.Directory.{IsNamed}
use Rattle.directory.proofs.slots.Directory.find.Given as goal

abbrev pub invariant-loop-slot : goal.invariant-loop-slot
invariant-loop-slot l = (other : ℕ) → other < l.slot → IsNamed l.self-inside.places other l.name → ⊥
