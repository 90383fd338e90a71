use Rattle.broker_points.proofs.kept.are_explained.Given as goal

abbrev pub invariant-loop-slot : goal.invariant-loop-slot
invariant-loop-slot l = Unit {0}
