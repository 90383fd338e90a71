use Rattle.windows.proofs.Dropping.{dropped}
use Rattle.windows.proofs.laws.dropped_values_change_nothing.Goals as goal

pub returns : goal.returns
returns c = dropped
