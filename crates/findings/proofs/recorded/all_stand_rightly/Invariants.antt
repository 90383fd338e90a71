use Rattle.std.proofs.Common.{ℕ, ◌<◌, length}
use Rattle.findings.specs.Ends.{AreBelow}
use Rattle.findings.specs.Standing.{IsStanding, StandsRightly}
use Rattle.findings.proofs.recorded.all_stand_rightly.Given as goal

abbrev pub invariant-loop-p : goal.invariant-loop-p
invariant-loop-p l = record {
  below : AreBelow (length l.standing.begun.items) l.findings.events;
  standing : IsStanding l.findings.events l.p l.standing.begun.items l.standing.crashed l.standing.is_down;
  rightly : (k : ℕ) → k < l.p → StandsRightly l.findings.events k;
}
