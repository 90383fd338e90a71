use Rattle.windows.proofs.Lines.{some_next}
use Rattle.windows.proofs.laws.some_value_may_go_next.Goals as goal

pub returns : goal.returns
returns c = some_next
