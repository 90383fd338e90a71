use Rattle.lasting.proofs.Moments.{settled_lasts, settled_there}
use Rattle.lasting.proofs.laws.settled_stands_there.Goals as goal

pub returns-clause-there : goal.returns-clause-there
returns-clause-there c = λ first s of settled. settled_there first s of settled

pub returns-clause-lasts : goal.returns-clause-lasts
returns-clause-lasts c = λ first s of settled. settled_lasts first s.kept s.policy s.failed of settled
