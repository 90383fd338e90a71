use Rattle.protocol.proofs.runs.Runs.{every_history}
use Rattle.protocol.proofs.laws.every_history_is_explained.Goals as goal

pub returns : goal.returns
returns c = every_history
