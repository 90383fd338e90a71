use Rattle.windows.proofs.Dropping.{last_dropped}
use Rattle.windows.proofs.laws.last_takes_may_be_dropped.Goals as goal

pub returns : goal.returns
returns c = last_dropped
