-- What became of a creation.
use Rattle.std.specs.Prelude.{IsSome}
use Rattle.directory.specs.Directory.{Directory, IsFree}
use Rattle.named.specs.Brokers.{Brokered, world_at}
use Rattle.workers.specs.declared.shared.Created.{Created}
use Rattle.workers.specs.declared.shared.Created.TheVariants.{Interrupted, Queue, Refused}

-- the slot that is told has a queue, and was free at first; a creation that was begun is not refused
abbrev pub IsMade : Directory → Brokered → Created → Type 0
IsMade first b (Queue slot) = IsSome (world_at b slot.0) × IsFree first slot.0
IsMade first b (Refused refusal) = ⊥
IsMade first b Interrupted = Unit {0}
