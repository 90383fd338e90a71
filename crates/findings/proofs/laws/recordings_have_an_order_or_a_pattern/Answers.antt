use Rattle.findings.proofs.Whole.{order_or}
use Rattle.findings.proofs.laws.recordings_have_an_order_or_a_pattern.Goals as goal

pub returns : goal.returns
returns c = order_or
