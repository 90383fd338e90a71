use Rattle.directory.proofs.Recoveries.{recovery_finds, recovery_opens}
use Rattle.directory.proofs.laws.recoveries_go_on.Goals as goal

pub returns-clause-next : goal.returns-clause-next
returns-clause-next c counts ws recovery directory h = recovery_finds counts ws recovery directory h

pub returns-clause-opened : goal.returns-clause-opened
returns-clause-opened c counts ws recovery directory h = recovery_opens counts ws recovery directory h
