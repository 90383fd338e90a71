use Rattle.protocol.proofs.runs.RunsBooted.{booted_ends}
use Rattle.protocol.proofs.laws.its_recovery_ends.Goals as goal

pub returns : goal.returns
returns c = booted_ends
