use Rattle.std.proofs.Common.{◌≡◌, drop}
use Rattle.interleave.specs.State.{after_acts}
use Rattle.explore.proofs.attempts.attempt_all.Given as goal

-- the acts that are left lead where all of them do
abbrev pub invariant-loop-act : goal.invariant-loop-act
invariant-loop-act l = after_acts l.world.now (drop l.act-index l.acts) ≡ after_acts l.fn.world.now l.acts
