use Rattle.std.proofs.Common.{◌≡◌, ◌++◌, ℕ, List, map}
use Rattle.std.specs.List.{range_with_len}
use Rattle.sound_words.specs.Kept.{Kept, kept_of}
use Rattle.migration.specs.Words.{word_migrated}
use Rattle.migration.proofs.block.add_block.Given as goal

-- the words so far
pub record IsAddedUpTo (queue : Kept) (old new : List ℕ) (word : ℕ) : Type 0 where
  pub added : new ≡ old ++ map (word_migrated queue.shape (kept_of queue)) (range_with_len 0 word)

abbrev pub invariant-loop-word : goal.invariant-loop-word
invariant-loop-word g l = IsAddedUpTo l.queue l.fn.words.items l.words.items l.word
