use Rattle.std.proofs.Common.{◌≡◌, ◌-◌, ◌++◌, map, take, replicate}
use Rattle.interleave.specs.LogQueue.{floor_of}
use Rattle.interleave.proofs.logqueue.LogQueue.recovered.Given as goal

abbrev pub invariant-loop-client : goal.invariant-loop-client
invariant-loop-client l = l.floors ≡ map floor_of (take l.client l.told) ++ replicate (16 - l.client) 0
