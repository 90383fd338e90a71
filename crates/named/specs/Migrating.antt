-- A broker that begins on the kept words of one of the form of values.
use Rattle.std.specs.Prelude.{◌≡◌, ℕ, List, Option, Some}
use Rattle.persist.specs.Memory.{words_at_rest}
use Rattle.arena.specs.Broker.{block_in}
use Rattle.arena.specs.Content.{content_in}
use Rattle.arena.specs.Shape.{Shape, shape_of}
use Rattle.arena.specs.declared.form.Form.TheVariants.{OfValues}
use Rattle.sound_words.specs.Kept.{kept_by}
use Rattle.sound_words.specs.Told.{tells_in}
use Rattle.directory.specs.Directory.{HasQueue}
use Rattle.directory.specs.Queue.{directory_of}
use Rattle.directory.specs.Sound.{counts_in}
use Rattle.directory.specs.declared.queue.Queue.{Queue}
use Rattle.interleave.specs.Queue.{told_in}
use Rattle.interleave.specs.State.{State}
use Rattle.migration.specs.Words.{broker_migrated}
use Rattle.named.specs.Booting.{IsBooted}
use Rattle.named.specs.Brokers.{Brokered, world_at}

-- the world begins with what the old block's words hold and tell
pub record BeginsAs (s : Shape) (old : List ℕ) (now : Option State) : Type 0 where
  pub world : State
  pub is : now ≡ Some world
  pub shape : world.shape ≡ s
  pub base : world.base ≡ content_in OfValues s (kept_by OfValues s old)
  pub told : told_in world.queue ≡ tells_in OfValues s (kept_by OfValues s old)

-- the broker began on the migrated words, with as many clients and records and with the same queues, each of which
-- begins with what its old words hold and tell
pub record IsMigrated (old : List ℕ) (b : Brokered) : Type 0 where
  pub booted : IsBooted (words_at_rest (broker_migrated old)) b
  pub counts : b.counts ≡ counts_in old
  pub directory : b.directory ≡ directory_of old
  pub queues : (slot : ℕ) (queue : Queue) → HasQueue (directory_of old) slot queue
      → BeginsAs (shape_of queue.kind (counts_in old)) (block_in OfValues (counts_in old) slot old) (world_at b slot)
