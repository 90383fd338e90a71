use Rattle.std.proofs.Common.{◌≡◌, ◌<◌, ℕ, length, get_or}
use Rattle.explore.proofs.copy.copy_kept.Given as goal

-- the words so far are kept alike
abbrev pub invariant-loop-word : goal.invariant-loop-word
invariant-loop-word l =
    record {
      size : length l.copy.words.kept ≡ length l.memory.words.kept;
      same : (k : ℕ) → k < l.word → get_or l.copy.words.kept k 0 ≡ get_or l.memory.words.kept k 0;
    }
