-- A broker that begins on kept words: which words those may be, and what it is then.
use Rattle.std.specs.Prelude.{◌≡◌, ℕ, ◌<◌, ◌⊎◌, List, Option, Some, None, length, slice_get}
use Rattle.words.specs.declared.call.Kind.{Kind}
use Rattle.words.specs.declared.refusal.Refusal.{Refusal}
use Rattle.words.specs.declared.refusal.Refusal.TheVariants.{NoMemory}
use Rattle.persist.specs.Memory.{Words, words_after_crash}
use Rattle.arena.specs.Broker.{block_in}
use Rattle.arena.specs.Form.{running}
use Rattle.arena.specs.Shape.{Counts, shape_of}
use Rattle.arena.specs.declared.broker.TheConstants.{SLOTS}
use Rattle.arena.specs.declared.form.Form.{Form}
use Rattle.directory.specs.Directory.{Directory, HasQueue}
use Rattle.directory.specs.Queue.{directory_of, slot_in}
use Rattle.directory.specs.Sound.{AreBrokerWordsIn, IsBrokerDamagedIn, counts_in}
use Rattle.directory.specs.declared.queue.Queue.{Queue}
use Rattle.interleave.specs.Booted.{booted_world}
use Rattle.interleave.specs.State.{State}
use Rattle.sound_words.specs.Sound.{AreSoundWordsIn, IsDamagedIn}
use Rattle.named.specs.Brokers.{Brokered, IsSlotAt, block_words, world_at}
use Rattle.named.specs.Slots.{kind_in, world_in}
use Rattle.named.specs.Stopping.{booting}
use Rattle.named.specs.declared.slot.Slot.{Slot}
use Rattle.named.specs.declared.slot.Slot.TheVariants.{Closed}

-- the kept words of a slot's block
abbrev pub kept_block : Counts → ℕ → List ℕ → List ℕ
kept_block = block_in running

-- the words of a slot's block are those that a queue of this kind may begin on
abbrev pub IsSoundFor : Form → Counts → Kind → ℕ → List ℕ → Type 0
IsSoundFor form c kind slot ws = AreSoundWordsIn form (shape_of kind c) (block_in form c slot ws)

-- they break a rule, the first of them this
abbrev pub IsDamagedFor : Form → Counts → Kind → ℕ → List ℕ → Refusal → Type 0
IsDamagedFor form c kind slot ws refusal = IsDamagedIn form (shape_of kind c) (block_in form c slot ws) refusal

-- the words of the block of an open slot are those that a queue of its kind may begin on
abbrev pub IsBlockSoundIn : Form → List ℕ → ℕ → Queue → Type 0
IsBlockSoundIn form ws slot queue = IsSoundFor form (counts_in ws) queue.kind slot ws

-- words that a broker may begin on, or that may be migrated
pub record AreBootWordsIn (form : Form) (ws : List ℕ) : Type 0 where
  pub broker : AreBrokerWordsIn form ws
  pub blocks : (slot : ℕ) (queue : Queue) → HasQueue (directory_of ws) slot queue → IsBlockSoundIn form ws slot queue

-- the lowest open slot whose block breaks a rule, and the first rule that it breaks
pub record IsBlockDamagedIn (form : Form) (ws : List ℕ) (refusal : Refusal) : Type 0 where
  pub broker : AreBrokerWordsIn form ws
  pub slot : ℕ
  pub queue : Queue
  pub has : HasQueue (directory_of ws) slot queue
  pub below : (other : ℕ) (q : Queue) → other < slot → HasQueue (directory_of ws) other q
      → IsBlockSoundIn form ws other q
  pub damaged : IsDamagedFor form (counts_in ws) queue.kind slot ws refusal

-- why it may not begin: the words break a rule, the first of them this; or they are sound, and there is no memory
abbrev pub MayRefuseIn : Form → List ℕ → Refusal → Type 0
MayRefuseIn form ws NoMemory = AreBootWordsIn form ws
MayRefuseIn form ws refusal = IsBrokerDamagedIn form ws refusal ⊎ IsBlockDamagedIn form ws refusal

-- all this in the form that queues run in
abbrev pub IsBlockSound : List ℕ → ℕ → Queue → Type 0
IsBlockSound = IsBlockSoundIn running

abbrev pub AreBootWords : List ℕ → Type 0
AreBootWords = AreBootWordsIn running

abbrev pub IsBlockDamaged : List ℕ → Refusal → Type 0
IsBlockDamaged = IsBlockDamagedIn running

abbrev pub MayRefuse : List ℕ → Refusal → Type 0
MayRefuse = MayRefuseIn running

-- the world that begins on the kept words of a slot's block, with a queue of this kind
abbrev pub block_booted : Counts → Kind → ℕ → Words → State
block_booted c kind slot ws = booted_world (shape_of kind c) (block_words c slot ws)

-- the world of an open slot begins on the words of its block
abbrev pub world_booted : Counts → ℕ → Words → Option Queue → Option State
world_booted c slot ws None = None
world_booted c slot ws (Some queue) = Some (block_booted c queue.kind slot ws)

-- what a broker read of kept words, as a crash left them: they are a broker's, with these counts and this directory
pub record AreReadIn (form : Form) (ws : Words) (counts : Counts) (directory : Directory) : Type 0 where
  pub crashed : ws.cached ≡ ws.kept
  pub broker : AreBrokerWordsIn form ws.kept
  pub counts_are : counts ≡ counts_in ws.kept
  pub directory_is : directory ≡ directory_of ws.kept

abbrev pub AreRead : Words → Counts → Directory → Type 0
AreRead = AreReadIn running

-- so it is of kept words, whatever is cached of as many words
pub record AreKept (ws : Words) (counts : Counts) (directory : Directory) : Type 0 where
  pub room : length ws.cached ≡ length ws.kept
  pub broker : AreBrokerWordsIn running ws.kept
  pub counts_are : counts ≡ counts_in ws.kept
  pub directory_is : directory ≡ directory_of ws.kept

-- the slot has a queue of this kind that begins on the words of its block
pub record IsQueueBooted (c : Counts) (ws : Words) (at : ℕ) (kind : Kind) (slot : Slot) : Type 0 where
  pub kind_is : kind_in slot ≡ Some kind
  pub world : world_in (words_after_crash ws) slot ≡ Some (block_booted c kind at ws)
  pub here : IsSlotAt c (words_after_crash ws) at slot

-- so has one that has a queue in the directory; any other is closed
abbrev pub IsSlotBooted : Counts → Words → ℕ → Option Queue → Slot → Type 0
IsSlotBooted c ws at None slot = slot ≡ Closed
IsSlotBooted c ws at (Some queue) slot = IsQueueBooted c ws at queue.kind slot

-- which of both it is, the directory says
abbrev pub IsBootedBy : Counts → Words → Directory → ℕ → Slot → Type 0
IsBootedBy c ws directory at slot =
    (place : Option Queue) → slice_get directory at ≡ Some place → IsSlotBooted c ws at place slot

pub record AreSlotsBooted (c : Counts) (ws : Words) (directory : Directory) (slots : List Slot) : Type 0 where
  pub count : length slots ≡ SLOTS
  pub each : (at : ℕ) (slot : Slot) (place : Option Queue) → slice_get slots at ≡ Some slot
      → slice_get directory at ≡ Some place → IsSlotBooted c ws at place slot

-- the broker that begins on these words, as a crash left them
pub record IsBooted (ws : Words) (b : Brokered) : Type 0 where
  pub counts : b.counts ≡ counts_in ws.kept
  pub words : b.words ≡ words_after_crash ws
  pub directory : b.directory ≡ directory_of ws.kept
  pub worlds : (slot : ℕ) → slot < SLOTS → world_at b slot ≡ world_booted b.counts slot ws (slot_in ws.kept slot)
  pub creation : b.creation ≡ None
  pub recovery : b.recovery ≡ booting
