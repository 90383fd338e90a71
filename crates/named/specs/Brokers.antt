-- A broker: one memory, and eight slots in it.
use Rattle.std.specs.Prelude.{◌≡◌, ◌≢◌, ℕ, ◌+◌, ◌*◌, ◌<◌, ◌≤◌, ◌⊎◌, Bool, true, false, ◌&&◌, not, IfOk, IfSome, IsSome, is_some, is_ok, List, Ok, Option, Some, None, Result, Err, length, replicate, slice_get, slice_set, nat_lt, if◌then◌else◌}
use Rattle.std.specs.Option.{option_map}
use Rattle.words.specs.declared.call.Client.{Client}
use Rattle.words.specs.declared.call.Kind.{Kind}
use Rattle.words.specs.declared.limits.TheConstants.{QUEUE_PORTS}
use Rattle.words.specs.declared.refusal.Refusal.{Refusal}
use Rattle.words.specs.declared.refusal.Refusal.TheVariants.{NoClient, NotReady, BadName, Busy, Exists, DirectoryFull}
use Rattle.persist.specs.Memory.{Words, words_in}
use Rattle.arena.specs.Broker.{block_from, block_size_of, broker_size}
use Rattle.arena.specs.Limits.{AreCounts}
use Rattle.arena.specs.Shape.{Counts, shape_of}
use Rattle.arena.specs.declared.broker.SlotId.{SlotId}
use Rattle.stepper.specs.declared.resume.After.{After}
use Rattle.stepper.specs.declared.resume.After.TheVariants.{More, Done}
use Rattle.arena.specs.declared.broker.TheConstants.{SLOTS}
use Rattle.directory.specs.Creation.{access_of, new_creation, successor}
use Rattle.directory.specs.Directory.{Directory, IsDirectory, HasName, HasQueue, IsFree, IsLowestFree}
use Rattle.directory.specs.Name.{IsName}
use Rattle.directory.specs.Step.{after_one}
use Rattle.directory.specs.UnderWay.{HasHead, IsAtRest, IsCreationUnderWay}
use Rattle.directory.specs.declared.creation.Creation.{Creation}
use Rattle.directory.specs.declared.queue.Queue.{Queue}
use Rattle.directory.specs.Recovering.{IsRecovering}
use Rattle.directory.specs.declared.recovery.DirectoryRecovery.{DirectoryRecovery}
use Rattle.directory.specs.declared.recovery.DirectoryPoint.{DirectoryPoint}
use Rattle.directory.specs.declared.recovery.DirectoryPoint.TheVariants.{LoadGate, LoadFirstName, LoadSecondName, LoadKind}
use Rattle.interleave.specs.State.{State, world_over}
use Rattle.named.specs.Blocks.{BlockState, IsWellIn}
use Rattle.named.specs.Slots.{kind_in, room_in, world_in, acted, answered, IsReadyIn}
use Rattle.named.specs.declared.recovery.BrokerRecovery.{BrokerRecovery}
use Rattle.named.specs.declared.recovery.BrokerRecovery.TheVariants.{ReadDirectory, RecoverQueue}
use Rattle.named.specs.declared.slot.Slot.{Slot}
use Rattle.named.specs.declared.slot.Slot.TheVariants.{Closed, Open}

-- how many clients and records each queue has, the memory, what each slot has, by its worlds and by the directory, the
-- creation that is under way, or that a crash dropped, and the recovery that is under way
pub record Brokered : Type 0 where
  pub counts : Counts
  pub words : Words
  pub slots : List Slot
  pub directory : Directory
  pub creation : Option Creation
  pub recovery : Option BrokerRecovery

-- so many clients of each queue, with so many records each
abbrev pub counts_of : ℕ → ℕ → Counts
counts_of clients records = record { clients = clients; records = records }

-- the world in a slot, where it is open
abbrev pub world_of : Words → Option Slot → Option State
world_of ws (Some slot) = world_in ws slot
world_of ws None = None

abbrev pub world_at : Brokered → ℕ → Option State
world_at b slot = world_of b.words (slice_get b.slots slot)

-- the world, but for how many accesses the whole memory had
abbrev pub quiet : Option State → Option State
quiet (Some w) = Some (record w { words = record w.words { accesses = 0 } })
quiet None = None

-- how many further acts the history of a slot's queue has memory for
abbrev pub room_of : Option Slot → ℕ
room_of (Some slot) = room_in slot
room_of None = 0

abbrev pub room_at : Brokered → ℕ → ℕ
room_at b slot = room_of (slice_get b.slots slot)

-- the broker has the client
abbrev pub has_client : Brokered → Client → Bool
has_client b client = nat_lt client.0 b.counts.clients

-- recovery is under way
abbrev pub is_down : Brokered → Bool
is_down b = is_some b.recovery

-- a creation is under way: one that a crash dropped is not
abbrev pub is_creating : Brokered → Bool
is_creating b = not (is_down b) && is_some b.creation

-- why a client's act is refused before its slot is looked at: there is no such client, or recovery is under way
abbrev pub admission : Brokered → Client → Result Unit Refusal
admission b client = if has_client b client then (if is_down b then Err NotReady else Ok tt) else Err NoClient

abbrev pub answer_if : {T : Type 0} → Result Unit Refusal → Result T Refusal → Result T Refusal
answer_if (Ok u) answer = answer
answer_if (Err refusal) answer = Err refusal

-- what a client's act makes of the world in a slot, and what it is answered
abbrev pub world_after : (State → State) → Brokered → ℕ → Client → Option State
world_after f b slot client = if is_ok (admission b client) then acted f (world_at b slot) else world_at b slot

abbrev pub answer_at : {T : Type 0} → (State → Result T Refusal) → Brokered → ℕ → Client → Result T Refusal
answer_at f b slot client = answer_if (admission b client) (answered f (world_at b slot))

-- the words of a slot's block, and they are all 0
abbrev pub block_words : Counts → ℕ → Words → Words
block_words c slot ws = words_in (block_from c slot) (block_size_of c.clients c.records) ws

pub record IsUnusedBlock (c : Counts) (ws : Words) (slot : ℕ) : Type 0 where
  pub cached : (block_words c slot ws).cached ≡ replicate (block_size_of c.clients c.records) 0
  pub kept : (block_words c slot ws).kept ≡ replicate (block_size_of c.clients c.records) 0

-- the world that begins on them, with a queue of this kind
abbrev pub block_world : Counts → Kind → ℕ → Words → State
block_world c kind slot ws = world_over (shape_of kind c) (block_words c slot ws)

-- the queue lies in the slot's block, acts through the slot's ports, is laid out as the broker's counts say, and its
-- world holds there
pub record IsInBlock (c : Counts) (ws : Words) (slot : ℕ) (block : BlockState) : Type 0 where
  pub shape : block.core.shape ≡ shape_of block.core.shape.kind c
  pub from : block.from ≡ block_from c slot
  pub len : block.len ≡ block_size_of c.clients c.records
  pub port : block.port ≡ QUEUE_PORTS * slot
  pub well : IsWellIn ws block

-- a closed slot has nothing in its block
abbrev pub IsSlotAt : Counts → Words → ℕ → Slot → Type 0
IsSlotAt c ws at Closed = IsUnusedBlock c ws at
IsSlotAt c ws at (Open block) = IsInBlock c ws at block

-- so it is over all words of a broker's memory in which its block is unused
abbrev pub IsSlotWhereUnused : Counts → ℕ → Slot → Type 0
IsSlotWhereUnused c at slot =
    (ws : Words) → broker_size c ≤ length ws.cached → IsUnusedBlock c ws at → IsSlotAt c ws at slot

-- the memory's directory is this one, or a creation is under way that will bring a queue of a new name into it
pub record IsCreating (ws : Words) (creation : Creation) (directory : Directory) : Type 0 where
  pub under_way : IsCreationUnderWay ws creation directory
  pub is_new : HasName directory creation.queue.name → ⊥

abbrev pub IsDirectoryIn : Words → Option Creation → Directory → Type 0
IsDirectoryIn ws None directory = IsAtRest ws directory
IsDirectoryIn ws (Some creation) directory = IsCreating ws creation directory

-- the recovered directory is the one that was known, or that with the queue whose creation a crash dropped
pub record IsWith (known whole : Directory) (creation : Creation) : Type 0 where
  pub free : IsFree known creation.slot.0
  pub is_new : HasName known creation.queue.name → ⊥
  pub is : whole ≡ slice_set known creation.slot.0 (Some creation.queue)

abbrev pub IsMaybeWith : Directory → Directory → Option Creation → Type 0
IsMaybeWith known whole None = whole ≡ known
IsMaybeWith known whole (Some creation) = (whole ≡ known) ⊎ IsWith known whole creation

-- how many gates a recovery has loaded
abbrev pub gates_loaded : DirectoryPoint → ℕ
gates_loaded (LoadGate slot) = slot.0
gates_loaded (LoadFirstName slot) = slot.0 + 1
gates_loaded (LoadSecondName slot first) = slot.0 + 1
gates_loaded (LoadKind slot first second) = slot.0 + 1

-- the directory is read: what is known of it is what the memory has, where its gates were loaded already
pub record IsReading (ws : Words) (at : DirectoryRecovery) (creation : Option Creation) (known : Directory)
    : Type 0 where
  pub whole : Directory
  pub recovering : IsRecovering ws at whole
  pub more : IsMaybeWith known whole creation
  pub loaded : (slot : ℕ) → slot < gates_loaded at.at → slice_get known slot ≡ slice_get whole slot

-- it was read, and the queue of this slot is recovered
pub record IsRecoveringQueue (ws : Words) (directory : Directory) (slot : ℕ) : Type 0 where
  pub rest : IsAtRest ws directory
  pub queue : Queue
  pub has : HasQueue directory slot queue

abbrev pub IsDirectoryDown : Words → BrokerRecovery → Option Creation → Directory → Type 0
IsDirectoryDown ws (ReadDirectory at) creation directory = IsReading ws at creation directory
IsDirectoryDown ws (RecoverQueue slot) creation directory = IsRecoveringQueue ws directory slot.0

-- what the memory has of the directory, at each moment
abbrev pub IsDirectoryAt : Words → Option BrokerRecovery → Option Creation → Directory → Type 0
IsDirectoryAt ws None creation directory = IsDirectoryIn ws creation directory
IsDirectoryAt ws (Some recovery) creation directory = IsDirectoryDown ws recovery creation directory

-- whether the queue in a slot is ready: while the directory is read none is
abbrev pub is_ready_at : Option BrokerRecovery → ℕ → Bool
is_ready_at None at = true
is_ready_at (Some (ReadDirectory recovery)) at = false
is_ready_at (Some (RecoverQueue slot)) at = nat_lt at slot.0

-- the memory is as large as the broker's layout
pub record HasRoom (c : Counts) (ws : Words) : Type 0 where
  pub cached : length ws.cached ≡ broker_size c
  pub kept : length ws.kept ≡ broker_size c

-- what holds of a broker at every moment
pub record IsWell (b : Brokered) : Type 0 where
  pub counts : AreCounts b.counts.clients b.counts.records
  pub room : HasRoom b.counts b.words
  pub head : HasHead b.words b.counts
  pub count : length b.slots ≡ SLOTS
  pub slots : (at : ℕ) (slot : Slot) → slice_get b.slots at ≡ Some slot → IsSlotAt b.counts b.words at slot
  pub listed : IsDirectory b.directory
  pub kinds : (at : ℕ) (slot : Slot) (queue : Option Queue) → slice_get b.slots at ≡ Some slot
      → slice_get b.directory at ≡ Some queue → kind_in slot ≡ option_map (λ (q : Queue). q.kind) queue
  pub directory : IsDirectoryAt b.words b.recovery b.creation b.directory
  pub readiness : (at : ℕ) (slot : Slot) → slice_get b.slots at ≡ Some slot → IsReadyIn (is_ready_at b.recovery at) slot

-- the broker with this in a slot, over these words
abbrev pub with_slot : Brokered → ℕ → Slot → Words → Brokered
with_slot b at slot ws = record b { words = ws; slots = slice_set b.slots at slot }

-- a creation of a queue of this name may begin
pub record MayCreate (b : Brokered) (name : List ℕ) : Type 0 where
  pub named : IsName name
  pub ready : b.recovery ≡ None
  pub idle : b.creation ≡ None
  pub is_new : HasName b.directory name → ⊥

-- why it may not, in this order
abbrev pub IsNotCreated : Brokered → List ℕ → Refusal → Type 0
IsNotCreated b name BadName = IsName name → ⊥
IsNotCreated b name NotReady = IsName name × IsSome b.recovery
IsNotCreated b name Busy = IsName name × (b.recovery ≡ None) × IsSome b.creation
IsNotCreated b name Exists = IsName name × (b.recovery ≡ None) × (b.creation ≡ None) × HasName b.directory name
IsNotCreated b name DirectoryFull = MayCreate b name × ((slot : ℕ) → IsFree b.directory slot → ⊥)
IsNotCreated b name _ = ⊥

-- it begins in the lowest free slot
pub record IsBegun (b : Brokered) (name : List ℕ) (kind : Kind) (creation : Creation) : Type 0 where
  pub free : IsLowestFree b.directory creation.slot.0
  pub begun : creation ≡ new_creation creation.slot (record { name = name; kind = kind })

-- the broker's words after a step of the creation
abbrev pub words_created : Brokered → Creation → Words
words_created b creation = after_one b.counts (access_of creation) b.words

-- its last step opens the slot: a new world, on words that are all 0. No queue's history loses room
pub record IsOpened (old new : Brokered) (creation : Creation) (slot : SlotId) : Type 0 where
  pub counts : new.counts ≡ old.counts
  pub recovery : new.recovery ≡ old.recovery
  pub words : new.words ≡ words_created old creation
  pub ended : new.creation ≡ None
  pub directory : new.directory ≡ slice_set old.directory slot.0 (Some creation.queue)
  pub world : world_at new slot.0 ≡ Some (block_world old.counts creation.queue.kind slot.0 new.words)
  pub rooms : (at : ℕ) → room_at old at ≤ room_at new at

-- what a step of a creation comes to, and what it answers
abbrev pub IsStepCreated
    : Brokered → Brokered → Creation → Result (Option SlotId) Refusal → After Creation SlotId → Type 0
IsStepCreated old new creation result (More next) =
    (result ≡ Ok None) × (new ≡ record old { words = words_created old creation; creation = Some next })
IsStepCreated old new creation result (Done slot) = (result ≡ Ok (Some slot)) × IsOpened old new creation slot

-- what a step makes of the creation that is under way, if one is and the broker is ready
abbrev pub IsCreationStep : Brokered → Brokered → Result (Option SlotId) Refusal → Type 0
IsCreationStep old new result =
    old.recovery ≡ None
    → IfSome old.creation (λ creation. IsStepCreated old new creation result (successor creation))

-- but for the slot that it opened, the worlds are as they were, save the count of accesses
abbrev pub AreUnopenedQuiet : Brokered → Brokered → Result (Option SlotId) Refusal → Type 0
AreUnopenedQuiet old new result =
    (other : ℕ) → IfOk result (λ opened. IfSome opened (λ slot. other ≢ slot.0))
    → quiet (world_at new other) ≡ quiet (world_at old other)

-- the words of a new broker: the head's two, and zeros behind them
abbrev pub new_words : Counts → List ℕ
new_words c = slice_set (slice_set (replicate (broker_size c) 0) 0 c.clients) 1 c.records

-- a broker with no queue
pub record IsNew (c : Counts) (b : Brokered) : Type 0 where
  pub counts : b.counts ≡ c
  pub cached : b.words.cached ≡ new_words c
  pub kept : b.words.kept ≡ new_words c
  pub slots : b.slots ≡ replicate SLOTS Closed
  pub directory : b.directory ≡ replicate SLOTS None
  pub creation : b.creation ≡ None
  pub recovery : b.recovery ≡ None
