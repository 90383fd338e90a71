use Rattle.lasting.proofs.Moments.{first_moment}
use Rattle.lasting.proofs.beginning.broker_of.Goals as goal

pub returns-clause-moment : goal.returns-clause-moment
returns-clause-moment c = first_moment c.args.session.now c.broker.ensures.promises c.tells_settled.ensures
