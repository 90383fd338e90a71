use Rattle.windows.proofs.Ranges.{fitting}
use Rattle.windows.proofs.laws.fitting_takes_are_a_range.Goals as goal

pub returns : goal.returns
returns c = fitting
