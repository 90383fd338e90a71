use Rattle.std.proofs.Common.{◌≡◌, ◌+◌, ◌-◌, replicate}
use Rattle.interleave.specs.State.{after_acts, taken_of}
use Rattle.explore.proofs.attempts.repeat.Given as goal

-- the attempts that are left lead where all of them do, and as many of them are accepted
abbrev pub invariant-loop-taken : goal.invariant-loop-taken
invariant-loop-taken l =
    record {
      leads :
          after_acts l.world.now (replicate (l.most - l.taken) l.act)
          ≡ after_acts l.fn.world.now (replicate l.most l.act);
      counts :
          l.taken + taken_of l.world.now (replicate (l.most - l.taken) l.act)
          ≡ taken_of l.fn.world.now (replicate l.most l.act);
    }
