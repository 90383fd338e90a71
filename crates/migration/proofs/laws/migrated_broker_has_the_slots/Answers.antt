use Rattle.migration.proofs.Brokers.{block_is, broker_sound, counts_same, directory_same}
use Rattle.migration.proofs.laws.migrated_broker_has_the_slots.Goals as goal

pub returns-clause-sound : goal.returns-clause-sound
returns-clause-sound c = λ ws h. broker_sound ws h.head h.directory

pub returns-clause-counts : goal.returns-clause-counts
returns-clause-counts c = counts_same

pub returns-clause-slots : goal.returns-clause-slots
returns-clause-slots c = directory_same

pub returns-clause-blocks : goal.returns-clause-blocks
returns-clause-blocks c = λ ws slot h below. block_is ws h slot below
