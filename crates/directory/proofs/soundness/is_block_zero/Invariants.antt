use Rattle.std.proofs.Common.{◌≡◌, ℕ, ◌+◌, ◌<◌, slice_index}
use Rattle.directory.proofs.soundness.is_block_zero.Given as goal

abbrev pub invariant-loop-word : goal.invariant-loop-word
invariant-loop-word g l = (word : ℕ) → word < l.word → slice_index (g.W.KeptWords.kept_words l.words) (l.from + word) ≡ 0
