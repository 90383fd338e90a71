use Rattle.std.proofs.Common.{◌≡◌, ◌++◌, ◌-◌, [], ◌∷◌, map, slice_index}
use Rattle.std.specs.List.{range_with_len}
use Rattle.renewal.proofs.broker.add_front.Given as goal

-- the counts, and the words so far
abbrev pub invariant-loop-word : goal.invariant-loop-word
invariant-loop-word l =
    l.words.items ≡ l.fn.words.items
    ++ ((l.to.clients ∷ l.to.records ∷ []) ++ map (slice_index l.memory.words.kept) (range_with_len 2 (l.word - 2)))
