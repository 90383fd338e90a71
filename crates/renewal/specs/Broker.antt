-- What the words of a whole broker become, each queue in fresh records, and all for these counts.
use Rattle.std.specs.Prelude.{◌≡◌, ℕ, ◌*◌, ◌<◌, ◌≤◌, List, [], ◌∷◌, ◌++◌, map, replicate, length, slice_index, Option, Some, None}
use Rattle.std.specs.List.{flat_map, range_with_len}
use Rattle.persist.specs.Memory.{Words}
use Rattle.arena.specs.Broker.{block_in, block_size_of}
use Rattle.arena.specs.Form.{running}
use Rattle.arena.specs.Shape.{Counts, shape_of}
use Rattle.arena.specs.declared.broker.TheConstants.{DIRECTORY_WORDS, HEAD_WORDS, SLOTS}
use Rattle.sound_words.specs.Sound.{AreSoundWords}
use Rattle.directory.specs.Directory.{Directory, HasQueue}
use Rattle.directory.specs.Queue.{directory_of, slot_in}
use Rattle.directory.specs.Sound.{AreBrokerWords, counts_in}
use Rattle.directory.specs.declared.queue.Queue.{Queue}
use Rattle.renewal.specs.Words.{IsRenewalOf, ItemsFit, words_renewed}

-- the words of a slot's block in the form that queues run in
abbrev pub slot_block : Counts → ℕ → List ℕ → List ℕ
slot_block c slot ws = block_in running c slot ws

-- they are sound words of this queue
abbrev pub HasSoundBlock : Counts → ℕ → List ℕ → Queue → Type 0
HasSoundBlock c slot ws queue = AreSoundWords (shape_of queue.kind c) (slot_block c slot ws)

-- what a slot's block becomes under new counts: all 0 where the slot has no queue
abbrev pub slot_renewed : Counts → Counts → Option Queue → List ℕ → List ℕ
slot_renewed to c None old = replicate (block_size_of to.clients to.records) 0
slot_renewed to c (Some queue) old = words_renewed (shape_of queue.kind to) (shape_of queue.kind c) old

-- what the block of this slot becomes in a broker of counts `to`: the slot has this queue, or none, and its block lies in
-- words of counts `c`
abbrev pub block_anew : Counts → Counts → Option Queue → ℕ → List ℕ → List ℕ
block_anew to c queue slot ws = slot_renewed to c queue (slot_block c slot ws)

abbrev pub slot_block_renewed : Counts → Counts → List ℕ → ℕ → List ℕ
slot_block_renewed to c ws slot = block_anew to c (slot_in ws slot) slot ws

-- the new counts, the directory as it was, and then the block of each slot
abbrev pub front_renewed : Counts → List ℕ → List ℕ
front_renewed to ws =
    (to.clients ∷ to.records ∷ []) ++ map (slice_index ws) (range_with_len HEAD_WORDS (SLOTS * DIRECTORY_WORDS))

abbrev pub blocks_renewed : Counts → List ℕ → List ℕ
blocks_renewed to ws = flat_map (slot_block_renewed to (counts_in ws) ws) (range_with_len 0 SLOTS)

unfoldable pub broker_renewed : Counts → List ℕ → List ℕ
broker_renewed to ws = front_renewed to ws ++ blocks_renewed to ws

-- the items of a slot's queue, if it has one, fit into fresh records of these counts
abbrev pub SlotFits : Counts → Counts → Option Queue → List ℕ → Type 0
SlotFits to c None old = Unit {0}
SlotFits to c (Some queue) old = ItemsFit (shape_of queue.kind to) (shape_of queue.kind c) old

-- so do those in the block of this slot, which has this queue, or none, and lies in words of counts `c`
abbrev pub FitsAnew : Counts → Counts → Option Queue → ℕ → List ℕ → Type 0
FitsAnew to c queue slot ws = SlotFits to c queue (slot_block c slot ws)

abbrev pub BlockFits : Counts → List ℕ → ℕ → Type 0
BlockFits to ws slot = FitsAnew to (counts_in ws) (slot_in ws slot) slot ws

-- those of each queue do
abbrev pub AllFit : Counts → List ℕ → Type 0
AllFit to ws = (slot : ℕ) → slot < SLOTS → BlockFits to ws slot

-- the kept words of a broker with these counts and this directory obey every rule, and there will be as many clients or
-- more
pub record MayBeRenewedTo (ws : Words) (counts : Counts) (directory : Directory) (to : Counts) : Type 0 where
  pub room : length ws.cached ≡ length ws.kept
  pub broker : AreBrokerWords ws.kept
  pub counts_are : counts ≡ counts_in ws.kept
  pub directory_is : directory ≡ directory_of ws.kept
  pub blocks : (slot : ℕ) (queue : Queue) → HasQueue (directory_of ws.kept) slot queue
      → HasSoundBlock (counts_in ws.kept) slot ws.kept queue
  pub clients : (counts_in ws.kept).clients ≤ to.clients

-- new words are those of a broker of these counts that has the queues of the old ones in the same slots
pub record IsBrokerRenewalOf (old : List ℕ) (to : Counts) (new : List ℕ) : Type 0 where
  pub sound : AreBrokerWords new
  pub counts : counts_in new ≡ to
  pub directory : directory_of new ≡ directory_of old
  pub queues : (slot : ℕ) (queue : Queue) → HasQueue (directory_of old) slot queue
      → IsRenewalOf (shape_of queue.kind (counts_in old)) (slot_block (counts_in old) slot old)
      (shape_of queue.kind to) (slot_block to slot new)
