use Rattle.findings.proofs.Greatest.{IsGreatestTo, IsKeptTo}
use Rattle.findings.proofs.preceding.precedence_is_kept.Given as goal

abbrev pub invariant-loop-i : goal.invariant-loop-i
invariant-loop-i l = record {
  greatest : IsGreatestTo l.entries l.i l.greatest;
  kept : IsKeptTo l.findings.events l.entries l.i;
}
