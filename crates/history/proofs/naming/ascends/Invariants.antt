use Rattle.history.specs.Sweeps.{AscendsTo}
use Rattle.history.proofs.naming.ascends.Given as goal

abbrev pub invariant-loop-i : goal.invariant-loop-i
invariant-loop-i l = AscendsTo l.events.items l.entries l.client l.i l.next
