-- An open queue stands in the words that are kept.
use Rattle.std.specs.Prelude.{◌≡◌, ℕ, List}
use Rattle.arena.specs.Shape.{shape_of}
use Rattle.directory.specs.Directory.{HasQueue}
use Rattle.directory.specs.Queue.{directory_of}
use Rattle.directory.specs.Sound.{counts_in}
use Rattle.directory.specs.declared.queue.Queue.{Queue}
use Rattle.interleave.specs.State.{State}
use Rattle.named.specs.Booting.{kept_block}

-- the directory of these words has a queue in this slot, of whose shape the world is, and whose block is what it keeps
pub record IsKeptQueue (kept : List ℕ) (slot : ℕ) (w : State) : Type 0 where
  pub queue : Queue
  pub has : HasQueue (directory_of kept) slot queue
  pub shape : w.shape ≡ shape_of queue.kind (counts_in kept)
  pub block : w.words.kept ≡ kept_block (counts_in kept) slot kept
