use Rattle.findings.proofs.Whole.{order_without}
use Rattle.findings.proofs.laws.recordings_have_an_order_without_patterns.Goals as goal

pub returns : goal.returns
returns c = order_without
