use Rattle.persist.specs.Memory.{lent_whole}
use Rattle.interleave.specs.State.{after_stop}
use Rattle.explore.proofs.Copied.{Runs}
use Rattle.explore.proofs.copy.recover.Given as goal

-- the copy's recovery is where that of the world would be
abbrev pub invariant-loop-steps : goal.invariant-loop-steps
invariant-loop-steps l =
    Runs (after_stop l.world.now) l.most l.steps l.ready l.recovery l.copy.words (lent_whole 0 0 l.copy)
