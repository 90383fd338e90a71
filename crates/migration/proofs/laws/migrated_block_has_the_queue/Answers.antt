use Rattle.migration.proofs.Words.{block_same}
use Rattle.migration.proofs.laws.migrated_block_has_the_queue.Goals as goal

pub returns : goal.returns
returns c = record { same = λ s old h. block_same s.kind (record { clients = s.clients; records = s.records }) old h.sound }
