use Rattle.std.proofs.Common.{ℕ, ◌<◌}
use Rattle.directory.specs.Directory.{HasQueue}
use Rattle.directory.specs.Queue.{directory_of}
use Rattle.directory.specs.declared.queue.Queue.{Queue}
use Rattle.named.specs.Booting.{IsBlockSoundIn}
use Rattle.named.proofs.booting.check_blocks.Given as goal

abbrev pub invariant-loop-slot : goal.invariant-loop-slot
invariant-loop-slot l =
    (slot : ℕ) (queue : Queue) → slot < l.slot → HasQueue (directory_of l.memory.words.kept) slot queue → IsBlockSoundIn l.form l.memory.words.kept slot queue
