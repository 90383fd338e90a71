-- A broker that begins on the kept words of another, with each queue in fresh records.
use Rattle.std.specs.Prelude.{◌≡◌, ◌⊎◌, ℕ, ◌+◌, ◌<◌, ◌≤◌, IsSome, true, false, List, length, Option, Some, None, Ok, Err}
use Rattle.words.specs.declared.limits.TheConstants.{MAX_CLIENTS, MAX_RECORDS}
use Rattle.words.specs.declared.refusal.Refusal.{Refusal}
use Rattle.words.specs.declared.refusal.Refusal.TheVariants.{BadClients, BadRecords, Busy, NoMemory, NoQueue, NoRoom, NotReady}
use Rattle.words.specs.declared.told.Told.{Told}
use Rattle.persist.specs.Memory.{overwritten, words_at_rest}
use Rattle.arena.specs.Broker.{block_from}
use Rattle.arena.specs.Content.{kept_content as content_of}
use Rattle.arena.specs.Limits.{AreCounts}
use Rattle.arena.specs.Place.{IsClient}
use Rattle.arena.specs.Shape.{Counts, Shape, shape_of}
use Rattle.arena.specs.declared.broker.TheConstants.{SLOTS}
use Rattle.sound_words.specs.Kept.{kept_in}
use Rattle.words.specs.Told.{no_call}
use Rattle.sound_words.specs.Told.{told_by}
use Rattle.directory.specs.Directory.{HasQueue}
use Rattle.directory.specs.Queue.{directory_of}
use Rattle.directory.specs.Sound.{counts_in}
use Rattle.directory.specs.declared.queue.Queue.{Queue}
use Rattle.renewal.specs.Broker.{AllFit, BlockFits, IsBrokerRenewalOf, broker_renewed}
use Rattle.renewal.specs.OneQueue.{IsQueueRenewalOf, queue_renewed}
use Rattle.interleave.specs.Queue.{told_in, told_to}
use Rattle.interleave.specs.State.{State, kept_content, kept_tells}
use Rattle.named.specs.Booting.{AreSlotsBooted, IsBooted, kept_block}
use Rattle.named.specs.Brokers.{Brokered, is_down, room_at, world_at}
use Rattle.named.specs.Each.{EachSlot}
use Rattle.named.specs.Rotating.{rotate_result}
use Rattle.named.specs.Slots.{HasRoomFor}
use Rattle.named.specs.declared.slot.Slot.{Slot}

-- what a client of the world was told last
abbrev pub told_of : State → ℕ → Told
told_of w t = told_to (told_in w.queue) (record { 0 = t })

-- the clients of the old words are told what these tell them, and any others that they made no call
pub record AreToldAsBefore (s : Shape) (old : List ℕ) (now : State) : Type 0 where
  pub told : (t : ℕ) → IsClient s t → told_of now t ≡ told_by s (kept_in s old) t
  pub others : (t : ℕ) → s.clients ≤ t → IsClient now.shape t → told_of now t ≡ no_call s.kind

-- the world of this shape begins with what the old block's words hold and tell
pub record BeginsRenewed (s : Shape) (old : List ℕ) (to : Shape) (now : Option State) : Type 0 where
  pub world : State
  pub is : now ≡ Some world
  pub shape : world.shape ≡ to
  pub base : world.base ≡ content_of s (kept_in s old)
  pub told : AreToldAsBefore s old world

-- there will be as many clients as there are or more, and these are counts of a broker
pub record AreCountsFor (old : List ℕ) (to : Counts) : Type 0 where
  pub clients : (counts_in old).clients ≤ to.clients
  pub counts : AreCounts to.clients to.records

-- The broker began on the renewed words, with these counts and with the same queues. Each begins with what its old
-- words hold and tell, and has used few records.
pub record IsRenewed (old : List ℕ) (to : Counts) (b : Brokered) : Type 0 where
  pub booted : IsBooted (words_at_rest (broker_renewed to old)) b
  pub may : AreCountsFor old to
  pub words : IsBrokerRenewalOf old to b.words.kept
  pub counts : b.counts ≡ to
  pub directory : b.directory ≡ directory_of old
  pub queues : (slot : ℕ) (queue : Queue) → HasQueue (directory_of old) slot queue
      → BeginsRenewed (shape_of queue.kind (counts_in old)) (kept_block (counts_in old) slot old)
      (shape_of queue.kind to) (world_at b slot)

-- these are counts for it, and the items of some queue do not fit
abbrev pub DoesNotFit : List ℕ → Counts → Type 0
DoesNotFit old to = AreCountsFor old to × (AllFit to old → ⊥)

-- why it does not begin so, the first reason that applies
abbrev pub IsWhyUnrenewed : List ℕ → Counts → Refusal → Type 0
IsWhyUnrenewed old to BadClients = (to.clients < (counts_in old).clients) ⊎ (MAX_CLIENTS < to.clients)
IsWhyUnrenewed old to BadRecords = ((counts_in old).clients ≤ to.clients) × (to.clients ≤ MAX_CLIENTS)
    × ((to.records ≡ 0) ⊎ (MAX_RECORDS < to.records))
IsWhyUnrenewed old to NoRoom = DoesNotFit old to
IsWhyUnrenewed old to NoMemory = AreCountsFor old to
IsWhyUnrenewed old to _ = ⊥

-- A queue of a broker at rest in fresh records.

-- the histories of all queues may end now, and the slot has a queue
pub record MayRenew (b : Brokered) (slot : ℕ) : Type 0 where
  pub rests : rotate_result false b ≡ Ok tt
  pub there : IsSome (world_at b slot)

-- a world that is down begins with what another's kept words hold and tell, and its own tell the same
pub record BeginsOn (was : State) (now : Option State) : Type 0 where
  pub world : State
  pub is : now ≡ Some world
  pub shape : world.shape ≡ was.shape
  pub down : IsSome world.recovery
  pub base : world.base ≡ kept_content was
  pub told : world.told ≡ kept_tells was
  pub tells : kept_tells world ≡ kept_tells was

-- The broker began on the words that the other one keeps, but that the queue of this slot is in fresh records. It has
-- the same queues, and the history of each begins with what the other's words hold and tell.
pub record IsRenewedAt (old new : Brokered) (slot : ℕ) : Type 0 where
  pub booted : IsBooted (words_at_rest (queue_renewed slot old.words.kept)) new
  pub words : IsQueueRenewalOf old.words.kept slot new.words.kept
  pub counts : new.counts ≡ old.counts
  pub directory : new.directory ≡ old.directory
  pub worlds : (at : ℕ) (w : State) → world_at old at ≡ Some w → BeginsOn w (world_at new at)
  pub closed : (at : ℕ) → world_at old at ≡ None → world_at new at ≡ None

-- each queue's history has room for so many acts
abbrev pub HasRoomInEach : Brokered → ℕ → Type 0
HasRoomInEach b acts = (at : ℕ) → IsSome (world_at b at) → acts ≤ room_at b at

-- The slots begin on what the broker keeps, each history with room for an act; and the block, written over that of this
-- slot, makes the words in which its queue is in fresh records.
pub record IsAnewFor (b : Brokered) (slot : ℕ) (slots : List Slot) (block : List ℕ) : Type 0 where
  pub booted : AreSlotsBooted b.counts b.words b.directory slots
  pub room : EachSlot (HasRoomFor 1) slots
  pub below : slot < SLOTS
  pub within : block_from b.counts slot + length block ≤ length b.words.kept
  pub words : overwritten (block_from b.counts slot) block b.words.kept ≡ queue_renewed slot b.words.kept
  pub same : IsQueueRenewalOf b.words.kept slot (queue_renewed slot b.words.kept)

-- why the queue is not renewed, the first reason that applies
abbrev pub IsWhyNotRenewedAt : Brokered → ℕ → Refusal → Type 0
IsWhyNotRenewedAt b slot NotReady = is_down b ≡ true
IsWhyNotRenewedAt b slot NoQueue = (is_down b ≡ false) × (world_at b slot ≡ None)
IsWhyNotRenewedAt b slot Busy = IsSome (world_at b slot) × (rotate_result false b ≡ Err Busy)
IsWhyNotRenewedAt b slot NoRoom = MayRenew b slot × (BlockFits (counts_in b.words.kept) b.words.kept slot → ⊥)
IsWhyNotRenewedAt b slot NoMemory = MayRenew b slot
IsWhyNotRenewedAt b slot _ = ⊥
