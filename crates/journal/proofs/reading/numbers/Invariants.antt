use Rattle.std.proofs.Common.{◌≡◌, map, take}
use Rattle.std.specs.Int.{w64, from_le_bytes}
use Rattle.journal.proofs.reading.numbers.Given as goal

-- the numbers so far
abbrev pub invariant-loop-word : goal.invariant-loop-word
invariant-loop-word l = l.numbers.items ≡ map (from_le_bytes w64) (take l.word-index l.words)
