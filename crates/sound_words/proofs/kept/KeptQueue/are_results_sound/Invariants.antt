use Rattle.std.proofs.Common.{ℕ, ◌≤◌, ◌<◌}
use Rattle.sound_words.specs.Kept.{kept_of}
use Rattle.sound_words.specs.Order.{CellTellsIn}
use Rattle.sound_words.proofs.kept.KeptQueue.are_results_sound.Given as goal

abbrev pub invariant-loop-cell : goal.invariant-loop-cell
invariant-loop-cell g l = (n : ℕ) → n < l.cell → 1 ≤ n → CellTellsIn l.self.form l.self.shape (kept_of l.self) n
