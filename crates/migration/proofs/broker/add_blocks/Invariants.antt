use Rattle.std.proofs.Common.{◌≡◌, ◌++◌}
use Rattle.std.specs.List.{flat_map, range_with_len}
use Rattle.directory.specs.Sound.{counts_in}
use Rattle.migration.specs.Words.{slot_block_migrated}
use Rattle.migration.proofs.broker.add_blocks.Given as goal

abbrev pub invariant-loop-slot : goal.invariant-loop-slot
invariant-loop-slot l =
    l.words.items ≡ l.fn.words.items
    ++ flat_map (slot_block_migrated (counts_in l.memory.words.kept) l.memory.words.kept) (range_with_len 0 l.slot)
