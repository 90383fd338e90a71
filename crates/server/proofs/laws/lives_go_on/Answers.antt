use Rattle.server.proofs.Restarts.{lives_go_on, restart_goes_on}
use Rattle.server.proofs.laws.lives_go_on.Goals as goal

pub returns-clause-restart : goal.returns-clause-restart
returns-clause-restart c = restart_goes_on

pub returns-clause-lives : goal.returns-clause-lives
returns-clause-lives c = lives_go_on
