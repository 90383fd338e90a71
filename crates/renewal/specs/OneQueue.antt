-- What the words of a whole broker become where one queue is written in fresh records.
use Rattle.std.specs.Prelude.{◌≡◌, ◌≢◌, ℕ, ◌+◌, ◌-◌, ◌<◌, ◌≤◌, List, ◌++◌, Some, map, length, slice_index}
use Rattle.std.specs.List.{range_with_len}
use Rattle.persist.specs.Memory.{overwritten}
use Rattle.words.specs.declared.refusal.Refusal.{Refusal}
use Rattle.words.specs.declared.refusal.Refusal.TheVariants.{NoMemory, NoQueue, NoRoom}
use Rattle.arena.specs.Broker.{block_from, block_size_of}
use Rattle.arena.specs.Shape.{Counts, shape_of}
use Rattle.arena.specs.declared.broker.TheConstants.{SLOTS}
use Rattle.directory.specs.Directory.{HasQueue}
use Rattle.directory.specs.Queue.{directory_of}
use Rattle.directory.specs.Sound.{AreBrokerWords, counts_in}
use Rattle.directory.specs.declared.queue.Queue.{Queue}
use Rattle.renewal.specs.Broker.{BlockFits, FitsAnew, block_anew, slot_block, slot_block_renewed}
use Rattle.renewal.specs.Words.{IsRenewalOf}

-- so many words from this one on
abbrev pub stretch : List ℕ → ℕ → ℕ → List ℕ
stretch ws from count = map (slice_index ws) (range_with_len from count)

-- the words with another block in a slot
abbrev pub block_replaced : Counts → ℕ → List ℕ → List ℕ → List ℕ
block_replaced c slot block ws =
    let from = block_from c slot in
    let end = from + block_size_of c.clients c.records in
    stretch ws 0 from ++ (block ++ stretch ws end (length ws - end))

-- the block of this slot is that of its queue in fresh records, and all other words are as they were
unfoldable pub queue_renewed : ℕ → List ℕ → List ℕ
queue_renewed slot ws = block_replaced (counts_in ws) slot (slot_block_renewed (counts_in ws) (counts_in ws) ws slot) ws

-- the new words are those of a broker with the same queues, of which the one in this slot is in fresh records
pub record IsQueueRenewalOf (old : List ℕ) (slot : ℕ) (new : List ℕ) : Type 0 where
  pub sound : AreBrokerWords new
  pub counts : counts_in new ≡ counts_in old
  pub directory : directory_of new ≡ directory_of old
  pub queue : Queue
  pub has : HasQueue (directory_of old) slot queue
  pub renewed : IsRenewalOf (shape_of queue.kind (counts_in old)) (slot_block (counts_in old) slot old)
      (shape_of queue.kind (counts_in old)) (slot_block (counts_in old) slot new)
  pub others : (other : ℕ) → other < SLOTS → other ≢ slot
      → slot_block (counts_in old) other new ≡ slot_block (counts_in old) other old

-- its block in fresh records, in a broker of as many clients and records, and whether its items fit
abbrev pub queue_anew : Counts → Queue → ℕ → List ℕ → List ℕ
queue_anew c queue slot ws = block_anew c c (Some queue) slot ws

abbrev pub QueueFits : Counts → Queue → ℕ → List ℕ → Type 0
QueueFits c queue slot ws = FitsAnew c c (Some queue) slot ws

-- a block for this slot is inside the words; written over them it renews the slot's queue
abbrev pub IsBlockWithin : Counts → ℕ → List ℕ → List ℕ → Type 0
IsBlockWithin c slot ws block = block_from c slot + length block ≤ length ws

abbrev pub RenewsQueue : Counts → ℕ → List ℕ → List ℕ → Type 0
RenewsQueue c slot ws block = overwritten (block_from c slot) block ws ≡ queue_renewed slot ws

-- the words with this slot's queue in fresh records are a renewal of that queue
abbrev pub StaysRenewed : ℕ → List ℕ → Type 0
StaysRenewed slot ws = IsQueueRenewalOf ws slot (queue_renewed slot ws)

-- why the words are not written so, the first reason that applies
abbrev pub IsWhyNotRenewed : List ℕ → ℕ → Refusal → Type 0
IsWhyNotRenewed ws slot NoQueue = (queue : Queue) → HasQueue (directory_of ws) slot queue → ⊥
IsWhyNotRenewed ws slot NoRoom = BlockFits (counts_in ws) ws slot → ⊥
IsWhyNotRenewed ws slot NoMemory = Unit {0}
IsWhyNotRenewed ws slot _ = ⊥
