-- A crash of a broker, and the steps of its recovery.
use Rattle.std.specs.Prelude.{◌≡◌, ◌≢◌, ℕ, ◌+◌, ◌<◌, ◌≤◌, Bool, true, false, is_none, Option, Some, None, Result, Ok, Err, IsSome, List, slice_get, slice_set}
use Rattle.words.specs.declared.call.Kind.{Kind}
use Rattle.words.specs.declared.refusal.Refusal.{Refusal}
use Rattle.words.specs.declared.refusal.Refusal.TheVariants.{AlreadyReady}
use Rattle.persist.specs.Memory.{Words, words_after_crash}
use Rattle.arena.specs.Shape.{Counts, shape_of}
use Rattle.arena.specs.declared.broker.SlotId.{SlotId}
use Rattle.stepper.specs.declared.resume.After.{After}
use Rattle.stepper.specs.declared.resume.After.TheVariants.{More, Done}
use Rattle.directory.specs.Directory.{Directory, HasQueue}
use Rattle.directory.specs.Queue.{slot_in}
use Rattle.directory.specs.Recovery.{boot_recovery, access_of, recovered}
use Rattle.directory.specs.Step.{after_one, value_found}
use Rattle.directory.specs.declared.creation.Creation.{Creation}
use Rattle.directory.specs.declared.queue.Queue.{Queue}
use Rattle.directory.specs.declared.recovery.DirectoryRecovery.{DirectoryRecovery}
use Rattle.directory.specs.declared.recovery.Recovered.{Recovered}
use Rattle.interleave.specs.Calls.{is_no_memory}
use Rattle.interleave.specs.State.{State, after_stop, after_recover, recover_result}
use Rattle.directory.specs.UnderWay.{HaveSameDirectory, IsAtRest}
use Rattle.named.specs.Blocks.{world_to_recover}
use Rattle.named.specs.Slots.{acted, answered}
use Rattle.named.specs.Brokers.{Brokered, IsReading, block_words, quiet, room_at, world_at}
use Rattle.named.specs.declared.recovery.BrokerRecovery.{BrokerRecovery}
use Rattle.named.specs.declared.recovery.BrokerRecovery.TheVariants.{ReadDirectory, RecoverQueue}

-- where the recovery of a broker begins
abbrev pub booting : Option BrokerRecovery
booting = Some (ReadDirectory boot_recovery)

-- a crash leaves the kept words alone: each open queue stops, and recovery begins anew. The creation that was under way
-- is dropped, and kept in mind, as is one that an earlier crash dropped
pub record IsStopped (old new : Brokered) : Type 0 where
  pub same : new ≡ record old { words = words_after_crash old.words; slots = new.slots; recovery = booting }
  pub worlds : (slot : ℕ) → world_at new slot ≡ acted after_stop (world_at old slot)

-- but for the room in its queues' histories nothing changed
pub record IsSameButRoom (old new : Brokered) : Type 0 where
  pub same : new ≡ record old { slots = new.slots }
  pub worlds : (slot : ℕ) → world_at new slot ≡ world_at old slot

-- some open queue's history has no room left
pub record HasFullQueue (b : Brokered) : Type 0 where
  pub slot : ℕ
  pub is_open : IsSome (world_at b slot)
  pub full : room_at b slot ≡ 0

-- the lowest slot from this one on that has a queue
pub record IsNextQueue (directory : Directory) (from slot : ℕ) : Type 0 where
  pub past : from ≤ slot
  pub queue : Queue
  pub has : HasQueue directory slot queue
  pub none_before : (other : ℕ) (q : Queue) → from ≤ other → other < slot → HasQueue directory other q → ⊥

-- what recovery is about to do once the queues below this slot are ready: the next one, or nothing
abbrev pub IsNext : Directory → ℕ → Option BrokerRecovery → Type 0
IsNext directory from None = (slot : ℕ) (queue : Queue) → from ≤ slot → HasQueue directory slot queue → ⊥
IsNext directory from (Some (ReadDirectory at)) = ⊥
IsNext directory from (Some (RecoverQueue slot)) = IsNextQueue directory from slot.0

-- once nothing is left to do the broker is ready, and no crash's creation is in doubt any more
abbrev pub creation_after : Option Creation → Option BrokerRecovery → Option Creation
creation_after creation None = None
creation_after creation (Some recovery) = creation

-- the words after a load of the directory's recovery, and what came of it
abbrev pub words_read : Brokered → DirectoryRecovery → Words
words_read b at = after_one b.counts (access_of at) b.words

abbrev pub found_by : Brokered → DirectoryRecovery → Recovered
found_by b at = recovered at (value_found b.counts (access_of at) b.words)

-- the world of a queue that recovery is the first to find: nobody called yet, and its recovery is to come
abbrev pub recovering_world : Counts → Kind → ℕ → Words → State
recovering_world c kind slot ws = world_to_recover (shape_of kind c) (block_words c slot ws)

abbrev pub found_world : Brokered → Kind → ℕ → Words → State
found_world b kind slot ws = recovering_world b.counts kind slot ws

-- the directory says of this slot what the kept words say
abbrev pub IsKnownByKept : List ℕ → Directory → SlotId → Type 0
IsKnownByKept kept directory slot = slice_get directory slot.0 ≡ Some (slot_in kept slot.0)

-- a slot whose gate was found open and that was closed is that of the creation which a crash dropped, and is opened
pub record IsFoundFirst (old new : Brokered) (slot : SlotId) : Type 0 where
  pub creation : Creation
  pub dropped : old.creation ≡ Some creation
  pub here : slot ≡ creation.slot
  pub directory : new.directory ≡ slice_set old.directory slot.0 (Some creation.queue)
  pub world : world_at new slot.0 ≡ Some (found_world old creation.queue.kind slot.0 new.words)
  pub others : (other : ℕ) → other ≢ slot.0 → quiet (world_at new other) ≡ quiet (world_at old other)

-- what is known of the directory and of its queues stays
pub record IsKnownAlike (old new : Brokered) : Type 0 where
  pub directory : new.directory ≡ old.directory
  pub worlds : (slot : ℕ) → quiet (world_at new slot) ≡ quiet (world_at old slot)

abbrev pub IsFoundIn : Brokered → Brokered → SlotId → Option State → Type 0
IsFoundIn old new slot (Some w) = IsKnownAlike old new
IsFoundIn old new slot None = IsFoundFirst old new slot

abbrev pub IsFound : Brokered → Brokered → Option SlotId → Type 0
IsFound old new None = IsKnownAlike old new
IsFound old new (Some slot) = IsFoundIn old new slot (world_at old slot.0)

-- what a step of the directory's recovery goes on to: its last one has read the directory, as it is known
abbrev pub IsReadOn : Brokered → Brokered → After DirectoryRecovery Directory → Type 0
IsReadOn old new (More next) = (new.recovery ≡ Some (ReadDirectory next)) × (new.creation ≡ old.creation)
IsReadOn old new (Done places) =
    (new.directory ≡ places) × IsNext new.directory 0 new.recovery
    × (new.creation ≡ creation_after old.creation new.recovery)

-- a step of recovery that reads the directory
pub record IsDirectoryRead (old new : Brokered) (at : DirectoryRecovery) (result : Result Bool Refusal) : Type 0 where
  pub counts : new.counts ≡ old.counts
  pub words : new.words ≡ words_read old at
  pub found : IsFound old new (found_by old at).opened
  pub rooms : (slot : ℕ) → room_at old slot ≤ room_at new slot
  pub next : IsReadOn old new (found_by old at).after
  pub answer : result ≡ Ok (is_none new.recovery)

-- what a step of a queue's recovery goes on to: the same queue, or, once that one is ready, the next
abbrev pub IsQueueOn : Brokered → Brokered → ℕ → Result Bool Refusal → Result Bool Refusal → Type 0
IsQueueOn old new slot result (Err refusal) =
    (result ≡ Err refusal) × (new.recovery ≡ old.recovery) × (new.creation ≡ old.creation)
IsQueueOn old new slot result (Ok false) =
    (result ≡ Ok false) × (new.recovery ≡ old.recovery) × (new.creation ≡ old.creation)
IsQueueOn old new slot result (Ok true) =
    (result ≡ Ok (is_none new.recovery)) × IsNext old.directory (slot + 1) new.recovery
    × (new.creation ≡ creation_after old.creation new.recovery)

-- a step of recovery of the queue in a slot: it uses up a place in that queue's history alone, and only where the queue
-- is ready by it
pub record IsQueueRecovered (old new : Brokered) (slot : ℕ) (result : Result Bool Refusal) : Type 0 where
  pub counts : new.counts ≡ old.counts
  pub directory : new.directory ≡ old.directory
  pub directory_words : HaveSameDirectory old.words new.words
  pub world : world_at new slot ≡ acted (after_recover (is_no_memory result)) (world_at old slot)
  pub others : (other : ℕ) → other ≢ slot → quiet (world_at new other) ≡ quiet (world_at old other)
  pub full : is_no_memory result ≡ true → room_at old slot ≡ 0
  pub room : room_at old slot ≤ room_at new slot + 1
  pub stays : new.recovery ≡ old.recovery → room_at old slot ≤ room_at new slot
  pub other_rooms : (other : ℕ) → other ≢ slot → room_at new other ≡ room_at old other
  pub next : IsQueueOn old new slot result (answered (recover_result (is_no_memory result)) (world_at old slot))

-- what a step of recovery makes, by what it was about to do
abbrev pub IsRecoveryStep : Brokered → Brokered → Result Bool Refusal → Option BrokerRecovery → Type 0
IsRecoveryStep old new result None = (result ≡ Err AlreadyReady) × (new ≡ old)
IsRecoveryStep old new result (Some (ReadDirectory at)) = IsDirectoryRead old new at result
IsRecoveryStep old new result (Some (RecoverQueue slot)) = IsQueueRecovered old new slot.0 result

-- the directory is being read
abbrev pub IsReadingDirectory : Option BrokerRecovery → Type 0
IsReadingDirectory None = ⊥
IsReadingDirectory (Some (ReadDirectory at)) = Unit {0}
IsReadingDirectory (Some (RecoverQueue slot)) = ⊥

-- it may be read on from here; or it was read, and what is known of it is what it is
abbrev pub MayReadOn : Brokered → After DirectoryRecovery Directory → Type 0
MayReadOn b (More next) = IsReading b.words next b.creation b.directory
MayReadOn b (Done places) = (places ≡ b.directory) × IsAtRest b.words b.directory
