use Rattle.std.proofs.Common.{◌≡◌, ◌≤◌, ◌+◌, take, length}
use Rattle.explore.proofs.stop.copy_events.Given as goal

-- the events so far are copied, and there is room for the rest
abbrev pub invariant-loop-place : goal.invariant-loop-place
invariant-loop-place l =
    record {
      copied : l.events.items ≡ take l.place l.others.items;
      room : length l.others.items + l.more ≤ l.events.room + l.place;
    }
