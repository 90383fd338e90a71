use Rattle.protocol.proofs.runs.RunsLeft.{crash_left, crash_kept}
use Rattle.protocol.proofs.laws.what_recovery_leaves.Goals as goal

pub returns-clause-recovered : goal.returns-clause-recovered
returns-clause-recovered c = crash_left

pub returns-clause-kept : goal.returns-clause-kept
returns-clause-kept c = crash_kept
