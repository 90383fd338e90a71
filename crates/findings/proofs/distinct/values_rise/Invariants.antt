use Rattle.findings.proofs.Rising.{RisesTo}
use Rattle.findings.proofs.distinct.values_rise.Given as goal

abbrev pub invariant-loop-p : goal.invariant-loop-p
invariant-loop-p l = RisesTo l.findings.events l.p l.least
