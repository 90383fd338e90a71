use Rattle.std.proofs.Common.{◌≤◌, ◌+◌, ◌-◌, length}
use Rattle.broker_points.specs.Points.{IsPointAt}
use Rattle.broker_points.proofs.Sweeps.{AreMade}
use Rattle.broker_points.proofs.sweep.all_points.Given as goal

-- the points so far are made
abbrev pub invariant-made : goal.invariant-made
invariant-made g l =
    record {
      few : length l.points.items ≤ length l.schedule.acts.items + 1;
      made : AreMade
          (IsPointAt (record { clients = l.schedule.broker.clients; records = l.schedule.broker.records })
          l.schedule.acts.items l.schedule.evictions) l.points.items;
    }

abbrev pub decreases-made : goal.decreases-made
decreases-made g l = length l.schedule.acts.items + 1 - length l.points.items
