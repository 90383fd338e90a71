use Rattle.std.proofs.Common.{ℕ, ◌≤◌, ◌<◌}
use Rattle.sound_words.specs.Kept.{kept_of}
use Rattle.sound_words.specs.Order.{EntryTells}
use Rattle.sound_words.proofs.kept.KeptQueue.are_entries_right.Given as goal

abbrev pub invariant-loop-entry : goal.invariant-loop-entry
invariant-loop-entry g l = (n : ℕ) → n < l.entry → 1 ≤ n → EntryTells l.self.shape (kept_of l.self) n
