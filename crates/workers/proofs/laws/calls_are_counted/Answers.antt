use Rattle.workers.proofs.lists.Counts.{list_counted}
use Rattle.workers.specs.Lists.{events_at}
use Rattle.workers.proofs.laws.calls_are_counted.Goals as goal

pub returns-clause-slot : goal.returns-clause-slot
returns-clause-slot c = list_counted

pub returns-clause-all : goal.returns-clause-all
returns-clause-all c = λ since s client list recorded slot.
    list_counted (since slot) slot (events_at s.broker slot) client list (recorded.ran slot)
