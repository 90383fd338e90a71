use Rattle.protocol.proofs.runs.RunsEnd.{ends}
use Rattle.protocol.proofs.laws.recovery_ends.Goals as goal

pub returns : goal.returns
returns c = ends
