use Rattle.std.proofs.Common.{◌≡◌}
use Rattle.persist.proofs.Overwrites.{partly}
use Rattle.persist.proofs.memory.write_over.Given as goal

-- so many words are written
abbrev pub invariant-loop-word : goal.invariant-loop-word
invariant-loop-word g l = l.kept ≡ partly l.fn.from l.word (g.W.KeptWords.kept_words l.words) l.initial.kept
