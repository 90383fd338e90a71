use Rattle.std.specs.Prelude.{ℕ, ◌<◌, ◌≤◌}
use Rattle.directory.specs.Directory.{HasQueue}
use Rattle.directory.specs.declared.queue.Queue.{Queue}
use Rattle.named.proofs.stopping.recovery_from.Given as goal

abbrev pub invariant-loop-slot : goal.invariant-loop-slot
invariant-loop-slot l =
    (l.from ≤ l.slot) × ((other : ℕ) (q : Queue) → l.from ≤ other → other < l.slot → HasQueue l.directory other q → ⊥)
