use Rattle.journal_file.proofs.Restarts.{failed, killed, stopped}
use Rattle.journal_file.proofs.laws.restarts_have_what_was_kept.Goals as goal

pub returns-clause-stopped : goal.returns-clause-stopped
returns-clause-stopped c = λ key base batches count j is left stop. stopped key base batches count j left is stop

pub returns-clause-killed : goal.returns-clause-killed
returns-clause-killed c = λ key base batches count j is going bytes n known long. killed key base batches count j bytes n is going known long

pub returns-clause-failed : goal.returns-clause-failed
returns-clause-failed c = λ key base batches count j is over bytes n known long. failed key base batches count j bytes n is over known long
