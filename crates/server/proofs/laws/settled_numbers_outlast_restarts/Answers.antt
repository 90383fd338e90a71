use Rattle.server.proofs.Restarts.{settled_still}
use Rattle.server.proofs.laws.settled_numbers_outlast_restarts.Goals as goal

pub returns : goal.returns
returns c = settled_still
