use Rattle.windows.proofs.Lines.{whole_line}
use Rattle.windows.proofs.laws.values_have_a_line.Goals as goal

pub returns : goal.returns
returns c = whole_line
