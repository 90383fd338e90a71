use Rattle.std.proofs.Common.{ℕ, ◌<◌}
use Rattle.sound_words.specs.Kept.{kept_of}
use Rattle.sound_words.specs.Sound.{LogIsSound}
use Rattle.sound_words.proofs.kept.KeptQueue.are_logs_sound.Given as goal

abbrev pub invariant-loop-t : goal.invariant-loop-t
invariant-loop-t g l = (n : ℕ) → n < l.t → LogIsSound l.self.shape (kept_of l.self) n
