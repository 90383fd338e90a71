use Rattle.owning.specs.Serving.{GoesOnRight}
use Rattle.owning.proofs.Creations.{IsUnderWay, left_of}
use Rattle.owning.proofs.creating.create_named.Given as goal

abbrev pub invariant-loop-slot : goal.invariant-loop-slot
invariant-loop-slot l = record {
  under : IsUnderWay l.fn.session l.session l.name l.fn.kind;
  on : GoesOnRight l.fn.session l.session;
}

abbrev pub decreases-loop-slot : goal.decreases-loop-slot
decreases-loop-slot l = left_of l.session.broker.creation
