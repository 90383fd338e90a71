use Rattle.std.proofs.Common.{ℕ, ◌<◌}
use Rattle.directory.specs.Directory.{HasQueue}
use Rattle.directory.specs.declared.queue.Queue.{Queue}
use Rattle.broker_points.proofs.kept.are_kept.Given as goal

-- those of the slots so far are there
abbrev pub invariant-loop-slot : goal.invariant-loop-slot
invariant-loop-slot l = (at : ℕ) (queue : Queue) → at < l.slot → HasQueue l.known at queue → HasQueue l.places at queue
