use Rattle.std.proofs.Common.{ℕ, ◌<◌}
use Rattle.arena.specs.Words.{HoldsIn}
use Rattle.sound_words.specs.Kept.{kept_of}
use Rattle.sound_words.proofs.kept.KeptQueue.are_in_range.Given as goal

abbrev pub invariant-loop-node : goal.invariant-loop-node
invariant-loop-node g l = (n : ℕ) → n < l.node → HoldsIn l.self.form (kept_of l.self) n
