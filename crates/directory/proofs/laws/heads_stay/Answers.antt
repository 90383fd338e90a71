use Rattle.directory.proofs.Sounds.{head_evicted, creation_head, recovery_head}
use Rattle.directory.proofs.laws.heads_stay.Goals as goal

pub returns-clause-evicted : goal.returns-clause-evicted
returns-clause-evicted c ws word counts room h = head_evicted ws word counts room h

pub returns-clause-created : goal.returns-clause-created
returns-clause-created c layout counts ws creation room h = creation_head layout counts ws creation room h

pub returns-clause-recovered : goal.returns-clause-recovered
returns-clause-recovered c layout counts ws recovery h = recovery_head layout counts ws recovery h
