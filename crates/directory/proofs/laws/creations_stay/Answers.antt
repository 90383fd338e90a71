use Rattle.directory.proofs.Creations.{creation_evicted}
use Rattle.directory.proofs.laws.creations_stay.Goals as goal

pub returns-clause-evicted : goal.returns-clause-evicted
returns-clause-evicted c creation directory ws word h = creation_evicted ws word creation directory h
