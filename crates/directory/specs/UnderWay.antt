-- What the words of the directory are at rest, and while a queue is created.
use Rattle.std.specs.Prelude.{◌≡◌, ◌≢◌, ℕ, ◌<◌, ◌≤◌, ◌⊎◌, Some, drop, length, slice_index, slice_get}
use Rattle.persist.specs.Memory.{Words, words_after_eviction}
use Rattle.arena.specs.Shape.{Counts}
use Rattle.arena.specs.declared.broker.TheConstants.{BLOCKS_FROM, HEAD_WORDS, SLOTS}
use Rattle.arena.specs.declared.codes.TheConstants.{CLOSED_GATE, OPEN_GATE}
use Rattle.stepper.specs.declared.resume.After.{After}
use Rattle.stepper.specs.declared.resume.After.TheVariants.{More, Done}
use Rattle.directory.specs.Name.{IsName, first_word, second_word}
use Rattle.directory.specs.Queue.{kind_code, first_name_at, second_name_at, kind_at, gate_at, slot_in, IsSlotSound}
use Rattle.directory.specs.Directory.{Directory, IsFree, with_queue}
use Rattle.directory.specs.Creation.{access_of, new_creation, successor}
use Rattle.directory.specs.Step.{after_one}
use Rattle.directory.specs.declared.queue.Queue.{Queue}
use Rattle.arena.specs.declared.broker.SlotId.{SlotId}
use Rattle.directory.specs.declared.creation.Creation.{Creation}
use Rattle.directory.specs.declared.creation.CreationPoint.{CreationPoint}
use Rattle.directory.specs.declared.creation.CreationPoint.TheVariants.{Store as StoreWord, Flush as FlushWord, Fence as FenceWord}
use Rattle.directory.specs.declared.creation.SlotWord.{SlotWord}
use Rattle.directory.specs.declared.creation.SlotWord.TheVariants.{FirstName as first_name, SecondName as second_name, Kind as kind_word, Gate as gate_word}

-- the memory has the words of the directory
pub record HasDirectory (ws : Words) : Type 0 where
  pub cached : BLOCKS_FROM ≤ length ws.cached
  pub kept : BLOCKS_FROM ≤ length ws.kept

-- the word has this value, cached and kept
pub record IsKept (ws : Words) (word value : ℕ) : Type 0 where
  pub cached : slice_index ws.cached word ≡ value
  pub kept : slice_index ws.kept word ≡ value

-- it has this value cached
pub record IsStored (ws : Words) (word value : ℕ) : Type 0 where
  pub cached : slice_index ws.cached word ≡ value

-- the words of the slot are kept as they are cached
pub record IsSettled (ws : Words) (slot : ℕ) : Type 0 where
  pub first : slice_index ws.cached (first_name_at slot) ≡ slice_index ws.kept (first_name_at slot)
  pub second : slice_index ws.cached (second_name_at slot) ≡ slice_index ws.kept (second_name_at slot)
  pub kind : slice_index ws.cached (kind_at slot) ≡ slice_index ws.kept (kind_at slot)
  pub gate : slice_index ws.cached (gate_at slot) ≡ slice_index ws.kept (gate_at slot)

-- the slot is as this directory has it, and its words are kept as they are cached
pub record IsSlotAtRest (ws : Words) (slot : ℕ) (directory : Directory) : Type 0 where
  pub settled : IsSettled ws slot
  pub sound : IsSlotSound ws.kept slot
  pub same : slice_get directory slot ≡ Some (slot_in ws.kept slot)

-- nobody writes the directory, and it is this one
pub record IsAtRest (ws : Words) (directory : Directory) : Type 0 where
  pub room : HasDirectory ws
  pub count : length directory ≡ SLOTS
  pub slots : (slot : ℕ) → slot < SLOTS → IsSlotAtRest ws slot directory

-- so it is but for this slot, which is free there
pub record IsAtRestBut (ws : Words) (slot : ℕ) (directory : Directory) : Type 0 where
  pub room : HasDirectory ws
  pub count : length directory ≡ SLOTS
  pub in_range : slot < SLOTS
  pub free : IsFree directory slot
  pub others : (other : ℕ) → other < SLOTS → other ≢ slot → IsSlotAtRest ws other directory

-- the gate is closed, cached and kept; it is stored open, and may be kept so
abbrev pub IsClosed : Words → ℕ → Type 0
IsClosed ws slot = IsKept ws (gate_at slot) CLOSED_GATE

pub record IsOpening (ws : Words) (slot : ℕ) : Type 0 where
  pub cached : slice_index ws.cached (gate_at slot) ≡ OPEN_GATE
  pub kept : (slice_index ws.kept (gate_at slot) ≡ CLOSED_GATE) ⊎ (slice_index ws.kept (gate_at slot) ≡ OPEN_GATE)

-- a word of the queue is stored, and may be kept
abbrev pub StoresFirstName : Words → ℕ → Queue → Type 0
StoresFirstName ws slot queue = IsStored ws (first_name_at slot) (first_word queue.name)

abbrev pub StoresSecondName : Words → ℕ → Queue → Type 0
StoresSecondName ws slot queue = IsStored ws (second_name_at slot) (second_word queue.name)

abbrev pub StoresKind : Words → ℕ → Queue → Type 0
StoresKind ws slot queue = IsStored ws (kind_at slot) (kind_code queue.kind)

-- words of the queue are kept
abbrev pub HasFirstName : Words → ℕ → Queue → Type 0
HasFirstName ws slot queue = IsKept ws (first_name_at slot) (first_word queue.name)

abbrev pub HasSecondName : Words → ℕ → Queue → Type 0
HasSecondName ws slot queue = IsKept ws (second_name_at slot) (second_word queue.name)

abbrev pub HasKind : Words → ℕ → Queue → Type 0
HasKind ws slot queue = IsKept ws (kind_at slot) (kind_code queue.kind)

abbrev pub HasNameWords : Words → ℕ → Queue → Type 0
HasNameWords ws slot queue = HasFirstName ws slot queue × HasSecondName ws slot queue

abbrev pub HasQueueWords : Words → ℕ → Queue → Type 0
HasQueueWords ws slot queue = HasNameWords ws slot queue × HasKind ws slot queue

-- how far a creation has come with the words of its slot where it stored one, which may be kept
abbrev pub HasStored : Words → ℕ → Queue → SlotWord → Type 0
HasStored ws slot queue first_name = IsClosed ws slot × StoresFirstName ws slot queue
HasStored ws slot queue second_name = IsClosed ws slot × HasFirstName ws slot queue × StoresSecondName ws slot queue
HasStored ws slot queue kind_word = IsClosed ws slot × HasNameWords ws slot queue × StoresKind ws slot queue
HasStored ws slot queue gate_word = IsOpening ws slot × HasQueueWords ws slot queue

-- and at each point
abbrev pub IsAsFarAs : Words → ℕ → Queue → CreationPoint → Type 0
IsAsFarAs ws slot queue (StoreWord first_name) = IsClosed ws slot
IsAsFarAs ws slot queue (StoreWord second_name) = IsClosed ws slot × HasFirstName ws slot queue
IsAsFarAs ws slot queue (StoreWord kind_word) = IsClosed ws slot × HasNameWords ws slot queue
IsAsFarAs ws slot queue (StoreWord gate_word) = IsClosed ws slot × HasQueueWords ws slot queue
IsAsFarAs ws slot queue (FlushWord word) = HasStored ws slot queue word
IsAsFarAs ws slot queue (FenceWord word) = HasStored ws slot queue word

-- a creation is under way, of a queue that is not in this directory yet
pub record IsCreationUnderWay (ws : Words) (creation : Creation) (directory : Directory) : Type 0 where
  pub others : IsAtRestBut ws creation.slot.0 directory
  pub named : IsName creation.queue.name
  pub own : IsAsFarAs ws creation.slot.0 creation.queue creation.at

-- and has made no step yet
abbrev pub IsCreationBegun : Words → SlotId → Queue → Directory → Type 0
IsCreationBegun ws slot queue directory = IsCreationUnderWay ws (new_creation slot queue) directory

-- words after its next step
abbrev pub after_creation_step : Counts → Words → Creation → Words
after_creation_step counts ws creation = after_one counts (access_of creation) ws

-- what a step of a creation comes to: it goes on, or the queue is in the directory
abbrev pub ComesTo : Words → Queue → Directory → After Creation SlotId → Type 0
ComesTo ws queue directory (More next) = IsCreationUnderWay ws next directory
ComesTo ws queue directory (Done slot) = IsAtRest ws (with_queue directory slot.0 queue)

-- so it is of its next step
abbrev pub CreationGoesOn : Counts → Words → Creation → Directory → Type 0
CreationGoesOn counts ws creation directory =
    ComesTo (after_creation_step counts ws creation) creation.queue directory (successor creation)

-- a crash leaves the directory as it was, or with the whole queue in it
abbrev pub IsAsItWasOrWith : Words → Creation → Directory → Type 0
IsAsItWasOrWith ws creation directory =
    IsAtRest ws directory ⊎ IsAtRest ws (with_queue directory creation.slot.0 creation.queue)

-- new words have the directory's as the old ones have them, cached and kept
pub record HaveSameDirectory (old new : Words) : Type 0 where
  pub room : HasDirectory new
  pub cached : (word : ℕ) → word < BLOCKS_FROM → slice_index new.cached word ≡ slice_index old.cached word
  pub kept : (word : ℕ) → word < BLOCKS_FROM → slice_index new.kept word ≡ slice_index old.kept word

-- what all leaves so that leaves the words of the directory as they are
abbrev pub StaysWithDirectory : (Words → Type 0) → Type 0
StaysWithDirectory is = (old new : Words) → is old → HaveSameDirectory old new → is new

-- what evictions leave so
abbrev pub StaysInEvictions : (Words → Type 0) → Type 0
StaysInEvictions is = (ws : Words) (word : ℕ) → is ws → is (words_after_eviction word ws)

-- the head's two words, cached and kept
pub record HasHead (ws : Words) (c : Counts) : Type 0 where
  pub clients : IsKept ws 0 c.clients
  pub records : IsKept ws 1 c.records

-- the words of the directory are 0, cached and kept
abbrev pub IsBlank : Words → Type 0
IsBlank ws = (word : ℕ) → HEAD_WORDS ≤ word → word < BLOCKS_FROM → IsKept ws word 0

-- the words of the blocks are as they were
pub record HaveSameBlocks (old new : Words) : Type 0 where
  pub cached : drop BLOCKS_FROM new.cached ≡ drop BLOCKS_FROM old.cached
  pub kept : drop BLOCKS_FROM new.kept ≡ drop BLOCKS_FROM old.kept
