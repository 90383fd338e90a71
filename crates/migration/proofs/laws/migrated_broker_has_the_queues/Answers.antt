use Rattle.migration.proofs.Brokers.{queue_kept}
use Rattle.migration.proofs.laws.migrated_broker_has_the_queues.Goals as goal

pub returns : goal.returns
returns c = record { same = λ ws slot queue h q. queue_kept ws h slot queue q }
