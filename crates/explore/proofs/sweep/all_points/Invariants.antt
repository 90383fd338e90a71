use Rattle.std.proofs.Common.{◌≡◌, ◌≤◌, ◌-◌, length, map}
use Rattle.std.specs.List.{range_with_len}
use Rattle.explore.specs.Points.{found_of, found_at}
use Rattle.explore.proofs.sweep.all_points.Given as goal

-- the points so far are made
abbrev pub invariant-made : goal.invariant-made
invariant-made g l =
    record {
      few : length l.points.items ≤ l.to - l.from;
      made :
          map found_of l.points.items
          ≡ map (found_at l.schedule.layout l.schedule.acts.items l.schedule.evictions)
          (range_with_len l.from (length l.points.items));
    }

abbrev pub decreases-made : goal.decreases-made
decreases-made g l = l.to - l.from - length l.points.items
