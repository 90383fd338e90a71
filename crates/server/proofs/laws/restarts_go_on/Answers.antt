use Rattle.server.proofs.Restarts.{goes_on_from}
use Rattle.server.proofs.laws.restarts_go_on.Goals as goal

pub returns : goal.returns
returns c = goes_on_from
