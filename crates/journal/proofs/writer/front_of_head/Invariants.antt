use Rattle.std.proofs.Common.{◌≡◌, ◌++◌, length, take}
use Rattle.std.specs.Int.{w64, to_le_bytes}
use Rattle.std.specs.List.{flat_map}
use Rattle.journal.specs.Reading.{first_bytes}
use Rattle.journal.proofs.writer.front_of_head.Given as goal

-- the magics, the count and the words so far
abbrev pub invariant-loop-word : goal.invariant-loop-word
invariant-loop-word l = l.front.items ≡ first_bytes ++ to_le_bytes w64 (length l.base) ++ flat_map (to_le_bytes w64) (take l.word-index l.base)
