use Rattle.protocol.proofs.runs.RunsLeft.{boot_left, boot_kept}
use Rattle.protocol.proofs.laws.what_its_recovery_leaves.Goals as goal

pub returns-clause-recovered : goal.returns-clause-recovered
returns-clause-recovered c = boot_left

pub returns-clause-kept : goal.returns-clause-kept
returns-clause-kept c = boot_kept
