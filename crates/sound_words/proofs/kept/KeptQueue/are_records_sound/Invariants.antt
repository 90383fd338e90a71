use Rattle.std.proofs.Common.{ℕ, ◌≤◌, ◌<◌}
use Rattle.sound_words.specs.Kept.{kept_of}
use Rattle.sound_words.specs.Sound.{IsBlankIfUnusedIn}
use Rattle.sound_words.proofs.kept.KeptQueue.are_records_sound.Given as goal

abbrev pub invariant-loop-number : goal.invariant-loop-number
invariant-loop-number g l = (n : ℕ) → n < l.number → 1 ≤ n → IsBlankIfUnusedIn l.self.form l.self.shape (kept_of l.self) n
