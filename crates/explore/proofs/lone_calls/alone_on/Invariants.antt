use Rattle.std.proofs.Common.{◌≡◌, ◌+◌, ◌-◌, ◌++◌, length}
use Rattle.std.specs.List.{flat_map, range_with_len}
use Rattle.explore.specs.Stopped.{alone_at}
use Rattle.explore.proofs.lone_calls.alone_on.Given as goal

-- what was found so far, and what comes of the points that are left, are all
abbrev pub invariant-loop-point : goal.invariant-loop-point
invariant-loop-point l =
    l.found.items
    ++ flat_map (alone_at l.layout l.acts) (range_with_len l.point (length l.acts + 1 - l.point))
    ≡ flat_map (alone_at l.layout l.acts) (range_with_len 0 (length l.acts + 1))
