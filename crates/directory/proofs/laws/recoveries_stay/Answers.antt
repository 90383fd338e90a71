use Rattle.directory.proofs.Recoveries.{recovery_evicted}
use Rattle.directory.proofs.laws.recoveries_stay.Goals as goal

pub returns-clause-evicted : goal.returns-clause-evicted
returns-clause-evicted c recovery directory ws word h = recovery_evicted ws word recovery directory h
