use Rattle.std.proofs.Common.{◌≡◌, ◌-◌, map}
use Rattle.std.specs.List.{range_with_len}
use Rattle.protocol.specs.declared.acts.Act.TheVariants.{Evict}
use Rattle.interleave.specs.State.{after_acts}
use Rattle.explore.proofs.evictions.evict_all.Given as goal

-- the words that are left lead where all of them do
abbrev pub invariant-loop-word : goal.invariant-loop-word
invariant-loop-word l =
    after_acts l.world.now (map Evict (range_with_len l.word (l.words - l.word)))
    ≡ after_acts l.fn.world.now (map Evict (range_with_len 0 l.words))
