use Rattle.std.proofs.Common.{◌≡◌, ◌++◌, ◌<◌, ℕ}
use Rattle.std.specs.List.{flat_map, range_with_len}
use Rattle.directory.specs.Sound.{counts_in}
use Rattle.renewal.specs.Broker.{BlockFits, slot_block_renewed}
use Rattle.renewal.proofs.broker.add_blocks.Given as goal

-- the blocks so far, whose queues fit
abbrev pub invariant-loop-slot : goal.invariant-loop-slot
invariant-loop-slot l = record {
  added : l.words.items ≡ l.fn.words.items
      ++ flat_map (slot_block_renewed l.to (counts_in l.memory.words.kept) l.memory.words.kept) (range_with_len 0 l.slot);
  room : (slot : ℕ) → slot < l.slot → BlockFits l.to l.memory.words.kept slot;
}
