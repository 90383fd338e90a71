use Rattle.lasting.proofs.Moments.{first_moment}
use Rattle.lasting.proofs.laws.firsts_are_moments.Goals as goal

pub returns : goal.returns
returns c = first_moment
