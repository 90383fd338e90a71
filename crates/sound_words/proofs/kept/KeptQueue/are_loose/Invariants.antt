use Rattle.std.proofs.Common.{ℕ, ◌≤◌, ◌<◌}
use Rattle.sound_words.specs.Kept.{kept_of}
use Rattle.sound_words.specs.Sound.{IsLooseIfOff}
use Rattle.sound_words.proofs.kept.KeptQueue.are_loose.Given as goal

abbrev pub invariant-loop-node : goal.invariant-loop-node
invariant-loop-node g l = (n : ℕ) → n < l.node → 1 ≤ n → IsLooseIfOff l.self.shape (kept_of l.self) n
