use Rattle.protocol.proofs.runs.Runs.{nothing_back}
use Rattle.protocol.proofs.laws.nothing_is_taken_back.Goals as goal

pub returns : goal.returns
returns c = nothing_back
