use Rattle.protocol.proofs.runs.RunsAlone.{calls_end}
use Rattle.protocol.proofs.laws.a_call_alone_ends.Goals as goal

pub returns : goal.returns
returns c = calls_end
