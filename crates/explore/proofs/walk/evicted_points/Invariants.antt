use Rattle.std.proofs.Common.{◌≡◌, ◌-◌, map}
use Rattle.std.specs.List.{range_with_len}
use Rattle.explore.specs.Points.{found_of, found_at}
use Rattle.explore.proofs.walk.evicted_points.Given as goal

-- the points so far are made
abbrev pub invariant-loop-point : goal.invariant-loop-point
invariant-loop-point l =
    map found_of l.points.items ≡ map (found_at l.layout l.acts l.evictions) (range_with_len l.from (l.point - l.from))
