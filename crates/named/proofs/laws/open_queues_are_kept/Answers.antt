use Rattle.named.proofs.promises.KeptQueues.{kept_queue}
use Rattle.named.proofs.laws.open_queues_are_kept.Goals as goal

pub returns : goal.returns
returns c = λ b promises. kept_queue b promises.well
