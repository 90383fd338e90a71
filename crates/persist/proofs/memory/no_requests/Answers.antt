use Rattle.persist.proofs.Requests.{none_asked}
use Rattle.persist.proofs.memory.no_requests.Goals as goal

pub returns-clause-none : goal.returns-clause-none
returns-clause-none c = λ port. none_asked 137 port
