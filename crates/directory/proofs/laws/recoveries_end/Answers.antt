use Rattle.directory.proofs.Recoveries.{one_less}
use Rattle.directory.proofs.laws.recoveries_end.Goals as goal

pub returns-clause-step : goal.returns-clause-step
returns-clause-step c recovery found = one_less recovery found
