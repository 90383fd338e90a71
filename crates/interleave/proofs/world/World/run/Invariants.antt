use Rattle.std.proofs.Common.{◌≡◌, ◌+◌, ◌≤◌, take}
use Rattle.interleave.specs.Holds.{Holds}
use Rattle.interleave.proofs.runs.Attempts.{SoFar}
use Rattle.interleave.proofs.world.World.run.Given as goal

-- how the acts so far went
abbrev pub invariant-loop-act : goal.invariant-loop-act
invariant-loop-act l =
    record {
      so_far : SoFar l.fn.self.room l.fn.self.now (take l.act-index l.acts) l.ran.taken l.self.now;
      room : l.fn.self.room ≤ l.self.room + l.ran.taken;
      all : l.ran.taken + l.ran.refused ≡ l.act-index;
      holds : Holds l.self.now;
    }
