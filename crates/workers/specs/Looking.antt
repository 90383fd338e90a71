-- What threads see of the queues, as far as that is so for good: by the directory when the seats were given.
use Rattle.std.specs.Prelude.{◌≡◌, ◌⊎◌, ℕ, List, Option, Some}
use Rattle.arena.specs.declared.broker.SlotId.{SlotId}
use Rattle.directory.specs.Directory.{Directory, HasQueue, IsDirectory, IsFree, IsNamed}
use Rattle.directory.specs.declared.queue.Queue.{Queue}
use Rattle.workers.specs.declared.shared.Created.{Created}
use Rattle.workers.specs.declared.shared.Created.TheVariants.{Interrupted, Queue as created_queue, Refused}

-- the one directory has the queues of the other, each in its slot with its name and kind, and no name twice
pub record IsListedOf (first now : Directory) : Type 0 where
  pub listed : IsDirectory now
  pub queues : (slot : ℕ) (queue : Queue) → HasQueue first slot queue → HasQueue now slot queue

-- where the directory has a queue of this name, it is found in its slot; where it has none, nothing is found but a slot
-- that is free there
pub record IsFoundOf (first : Directory) (name : List ℕ) (found : Option SlotId) : Type 0 where
  pub there : (slot : ℕ) → IsNamed first slot name → found ≡ Some (record { 0 = slot })
  pub right : (slot : SlotId) → found ≡ Some slot → IsNamed first slot.0 name ⊎ IsFree first slot.0

-- a queue is created in a slot that is free there
abbrev pub IsCreatedBeside : Directory → Created → Type 0
IsCreatedBeside first (created_queue slot) = IsFree first slot.0
IsCreatedBeside first (Refused refusal) = Unit {0}
IsCreatedBeside first Interrupted = Unit {0}
