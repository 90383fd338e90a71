use Rattle.std.proofs.Common.{◌≡◌, take}
use Rattle.lasting.proofs.beginning.kept_words.Given as goal

-- the words so far are copied
abbrev pub invariant-loop-word : goal.invariant-loop-word
invariant-loop-word l = l.words.items ≡ take l.word l.memory.words.kept
