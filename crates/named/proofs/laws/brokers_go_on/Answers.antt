use Rattle.named.proofs.acts.Continuity.{broker_goes_further, broker_stays}
use Rattle.named.proofs.laws.brokers_go_on.Goals as goal

pub returns-clause-none : goal.returns-clause-none
returns-clause-none c = broker_stays

pub returns-clause-more : goal.returns-clause-more
returns-clause-more c = broker_goes_further
