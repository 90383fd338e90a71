use Rattle.std.proofs.Common.{◌≡◌, ◌-◌, map, take, length}
use Rattle.std.specs.List.{range_with_len}
use Rattle.arena.specs.Layout.{size_of}
use Rattle.interleave.specs.State.{after_acts, new_world}
use Rattle.explore.specs.Points.{found_of, found_at}
use Rattle.explore.specs.declared.evictions.Evictions.TheVariants.{None as no_word}
use Rattle.explore.proofs.walk.stops_in.Given as goal

-- the points so far are made, and the world has made the acts up to this one
abbrev pub invariant-loop-point : goal.invariant-loop-point
invariant-loop-point l =
    let s = l.fn.world.now.shape in
    record {
      world : l.world.now ≡ after_acts (new_world s) (take l.point l.acts);
      size : length l.probe.copy.words.kept ≡ size_of s;
      made : map found_of l.points.items ≡ map (found_at s l.acts no_word) (range_with_len l.from (l.point - l.from));
    }
