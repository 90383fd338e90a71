use Rattle.std.proofs.Common.{ℕ, ◌<◌}
use Rattle.directory.specs.Directory.{IsFree}
use Rattle.directory.proofs.slots.Directory.lowest_free.Given as goal

abbrev pub invariant-loop-slot : goal.invariant-loop-slot
invariant-loop-slot l = (other : ℕ) → other < l.slot → IsFree l.self-inside.places other → ⊥
