use Rattle.named.specs.Each.{HasStopped}
use Rattle.named.proofs.acts.Loops.{BecomeBelow}
use Rattle.named.proofs.slots.stop_each.Given as goal

abbrev pub invariant-loop-slot : goal.invariant-loop-slot
invariant-loop-slot l = BecomeBelow HasStopped l.slot-index l.initial.slots l.slots
