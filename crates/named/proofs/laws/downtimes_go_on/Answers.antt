use Rattle.named.proofs.acts.Continuity.{downtime_goes_further}
use Rattle.named.proofs.laws.downtimes_go_on.Goals as goal

pub returns : goal.returns
returns c = downtime_goes_further
