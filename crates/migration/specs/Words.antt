-- What the words of a queue's block, and those of a whole broker, become that have the form of values.
use Rattle.std.specs.Prelude.{◌≡◌, ℕ, ◌<◌, List, ◌++◌, map, replicate, take, Option, Some, None}
use Rattle.std.specs.List.{flat_map, range_with_len}
use Rattle.words.specs.declared.call.Kind.{Kind}
use Rattle.persist.specs.Memory.{Words}
use Rattle.arena.specs.Broker.{block_in, block_size_of}
use Rattle.arena.specs.Content.{content_in, kept_content}
use Rattle.arena.specs.Layout.{place_in}
use Rattle.arena.specs.Shape.{Counts, Shape, shape_of}
use Rattle.arena.specs.declared.broker.TheConstants.{BLOCKS_FROM, SLOTS}
use Rattle.arena.specs.declared.form.Form.TheVariants.{OfItems, OfValues}
use Rattle.arena.specs.declared.place.Place.{Place}
use Rattle.sound_words.specs.Kept.{kept_by, kept_in}
use Rattle.sound_words.specs.Sound.{AreSoundWords, AreSoundWordsIn}
use Rattle.sound_words.specs.Told.{tells_by, tells_in}
use Rattle.directory.specs.Directory.{Directory, HasQueue}
use Rattle.directory.specs.Queue.{directory_of, slot_in}
use Rattle.directory.specs.Sound.{AreBrokerWordsIn, counts_in}
use Rattle.directory.specs.declared.queue.Queue.{Queue}
use Rattle.migration.specs.Migrated.{migrated}

-- a word is what its place becomes; past the queue's layout it is 0
abbrev pub migrated_or_zero : Shape → (Place → ℕ) → Option Place → ℕ
migrated_or_zero s kept None = 0
migrated_or_zero s kept (Some place) = migrated s kept place

abbrev pub word_migrated : Shape → (Place → ℕ) → ℕ → ℕ
word_migrated s kept w = migrated_or_zero s kept (place_in OfItems s w)

-- a queue's block of words
unfoldable pub block_migrated : Kind → Counts → List ℕ → List ℕ
block_migrated kind c old =
    map (word_migrated (shape_of kind c) (kept_by OfValues (shape_of kind c) old))
    (range_with_len 0 (block_size_of c.clients c.records))

-- the same of a queue of this shape
abbrev pub words_migrated : Shape → List ℕ → List ℕ
words_migrated s old = block_migrated s.kind (record { clients = s.clients; records = s.records }) old

-- the words of a slot's block in the form of values
abbrev pub old_block : Counts → ℕ → List ℕ → List ℕ
old_block c slot ws = block_in OfValues c slot ws

-- they are sound words of this queue
abbrev pub HasSoundValues : Counts → ℕ → List ℕ → Queue → Type 0
HasSoundValues c slot ws queue = AreSoundWordsIn OfValues (shape_of queue.kind c) (old_block c slot ws)

-- the block of a slot, which is all 0 where the slot has no queue
abbrev pub slot_migrated : Counts → Option Queue → List ℕ → List ℕ
slot_migrated c None old = replicate (block_size_of c.clients c.records) 0
slot_migrated c (Some queue) old = block_migrated queue.kind c old

-- the head and the directory as they were, and then the block of each slot
abbrev pub slot_block_migrated : Counts → List ℕ → ℕ → List ℕ
slot_block_migrated c ws slot = slot_migrated c (slot_in ws slot) (old_block c slot ws)

abbrev pub blocks_migrated : List ℕ → List ℕ
blocks_migrated ws = flat_map (slot_block_migrated (counts_in ws) ws) (range_with_len 0 SLOTS)

unfoldable pub broker_migrated : List ℕ → List ℕ
broker_migrated ws = take BLOCKS_FROM ws ++ blocks_migrated ws

-- words of the form of items are sound, and have the queue that words of the form of values have: they hold the same
-- messages, and tell each client the same
pub record HaveQueueOf (s : Shape) (old new : List ℕ) : Type 0 where
  pub sound : AreSoundWords s new
  pub content : kept_content s (kept_in s new) ≡ content_in OfValues s (kept_by OfValues s old)
  pub told : tells_by s (kept_in s new) ≡ tells_in OfValues s (kept_by OfValues s old)

-- a slot of a broker's words has a queue, whose words are sound in the form of values
pub record HasSoundQueue (ws : List ℕ) (slot : ℕ) (queue : Queue) : Type 0 where
  pub in_range : slot < SLOTS
  pub has : slot_in ws slot ≡ Some queue
  pub sound : HasSoundValues (counts_in ws) slot ws queue

-- so has the migrated broker, with all that it holds and tells
abbrev pub StillHasQueue : List ℕ → ℕ → Queue → Type 0
StillHasQueue ws slot queue =
    HaveQueueOf (shape_of queue.kind (counts_in ws)) (old_block (counts_in ws) slot ws)
    (block_in OfItems (counts_in ws) slot (broker_migrated ws))

-- the words of a broker of the form of values, as a crash left them, with these counts and this directory, that obey
-- every rule
pub record MayBeMigrated (ws : Words) (counts : Counts) (directory : Directory) : Type 0 where
  pub crashed : ws.cached ≡ ws.kept
  pub broker : AreBrokerWordsIn OfValues ws.kept
  pub counts_are : counts ≡ counts_in ws.kept
  pub directory_is : directory ≡ directory_of ws.kept
  pub blocks : (slot : ℕ) (queue : Queue) → HasQueue (directory_of ws.kept) slot queue
      → HasSoundValues (counts_in ws.kept) slot ws.kept queue
