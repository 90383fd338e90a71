use Rattle.renewal.specs.Zeros.{AreZeroRuns}
use Rattle.renewal.proofs.renewal.Renewal.note.Given as goal

-- what is noted so far is right
abbrev pub invariant-loop-run : goal.invariant-loop-run
invariant-loop-run l = AreZeroRuns l.self l.runs.items
