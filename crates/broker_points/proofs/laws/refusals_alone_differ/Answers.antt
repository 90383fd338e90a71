use Rattle.broker_points.proofs.Plainly.{script_differs}
use Rattle.broker_points.proofs.laws.refusals_alone_differ.Goals as goal

pub returns : goal.returns
returns c = script_differs
