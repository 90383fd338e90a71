use Rattle.broker_points.proofs.Plainly.{none_refused}
use Rattle.broker_points.proofs.laws.no_refusal_without_again.Goals as goal

pub returns : goal.returns
returns c = none_refused
