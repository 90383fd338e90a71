use Rattle.std.proofs.Common.{◌≡◌, ℕ, ◌≤◌, ◌<◌, slice_index}
use Rattle.sound_words.proofs.soundness.is_rest_zero.Given as goal

abbrev pub invariant-loop-word : goal.invariant-loop-word
invariant-loop-word g l = (w : ℕ) → w < l.word → l.from ≤ w → slice_index (g.W.KeptWords.kept_words l.words) w ≡ 0
