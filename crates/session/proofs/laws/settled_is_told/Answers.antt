use Rattle.session.proofs.answers.Settled.{settled_told}
use Rattle.session.proofs.laws.settled_is_told.Goals as goal

pub returns : goal.returns
returns c = λ s right slot w client number reply. settled_told s slot w client number reply right
