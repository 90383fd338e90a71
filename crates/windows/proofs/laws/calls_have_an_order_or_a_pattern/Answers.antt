use Rattle.windows.proofs.Solved.{order_or_pattern}
use Rattle.windows.proofs.laws.calls_have_an_order_or_a_pattern.Goals as goal

pub returns : goal.returns
returns c = order_or_pattern
