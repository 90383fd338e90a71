use Rattle.renewal.proofs.Words.{block_same}
use Rattle.renewal.proofs.laws.renewed_block_has_the_queue.Goals as goal

pub returns : goal.returns
returns c = block_same
