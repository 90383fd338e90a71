use Rattle.std.proofs.Common.{length}
use Rattle.findings.specs.Ends.{AreBelow, AreEndsFrom, AreNextEnds}
use Rattle.findings.proofs.facts.ends_of.Given as goal

abbrev pub invariant-loop-p : goal.invariant-loop-p
invariant-loop-p l = record {
  below : AreBelow (length l.next.returns.items) l.facts.events;
  next : AreNextEnds l.facts.events l.p l.next.returns.items l.next.crash;
  ends : AreEndsFrom l.facts.events l.p l.ends.items;
}
