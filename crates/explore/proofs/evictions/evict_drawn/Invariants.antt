use Rattle.std.proofs.Common.{◌≡◌, ◌-◌, map}
use Rattle.protocol.specs.declared.acts.Act.TheVariants.{Evict}
use Rattle.interleave.specs.State.{after_acts}
use Rattle.explore.specs.Points.{drawn_words}
use Rattle.explore.proofs.evictions.evict_drawn.Given as goal

-- the draws that are left lead where all of them do
abbrev pub invariant-loop-word : goal.invariant-loop-word
invariant-loop-word l =
    after_acts l.world.now (map Evict (drawn_words (l.words - l.word) l.word l.draws))
    ≡ after_acts l.fn.world.now (map Evict (drawn_words l.words 0 l.fn.draws))
