use Rattle.workers.specs.Moments.{GoesOnLater}
use Rattle.workers.proofs.shared.Shared.create.Given as goal

abbrev pub invariant-loop : goal.invariant-loop
invariant-loop g l = GoesOnLater l.initial.marked l.marked
