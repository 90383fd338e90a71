use Rattle.renewal.specs.Zeros.{AreZeroRuns}
use Rattle.renewal.proofs.renewal.Renewal.zero_runs.Given as goal

-- what is noted so far is right
abbrev pub invariant-loop-client : goal.invariant-loop-client
invariant-loop-client l = AreZeroRuns l.self l.runs.items
