use Rattle.directory.proofs.Creations.{kept_directory, cached_directory, rest_evicted}
use Rattle.directory.proofs.laws.directories_stay.Goals as goal

pub returns-clause-kept : goal.returns-clause-kept
returns-clause-kept c ws directory h = kept_directory ws directory h

pub returns-clause-cached : goal.returns-clause-cached
returns-clause-cached c ws directory h = cached_directory ws directory h

pub returns-clause-evicted : goal.returns-clause-evicted
returns-clause-evicted c directory ws word h = rest_evicted ws word directory h
