use Rattle.std.proofs.Common.{◌≡◌, ◌-◌, ◌++◌, length}
use Rattle.std.specs.List.{flat_map, range_with_len}
use Rattle.interleave.specs.State.{after_acts, new_world}
use Rattle.explore.specs.Stopped.{lone_answer, lone_answers}
use Rattle.explore.proofs.lone_calls.add_each.Given as goal

-- the world has made the acts, and what was found so far, and what comes of the clients that are left, are all
abbrev pub invariant-loop-number : goal.invariant-loop-number
invariant-loop-number l =
    let w = after_acts (new_world l.layout) l.acts in
    record {
      world : l.world.now ≡ w;
      found :
          l.found.items
          ++ flat_map (λ number. lone_answer (length l.acts) w (record { 0 = number }))
          (range_with_len l.number (l.number-end - l.number))
          ≡ l.fn.found.items ++ lone_answers (length l.acts) w;
    }
