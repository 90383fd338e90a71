use Rattle.std.proofs.Common.{◌≡◌, take}
use Rattle.renewal.proofs.fresh.FreshBlock.words.Given as goal

-- the words so far
abbrev pub invariant-loop-word : goal.invariant-loop-word
invariant-loop-word l = l.words.items ≡ take l.word l.self
