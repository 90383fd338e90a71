use Rattle.std.proofs.Common.{◌≡◌, ◌-◌, ◌++◌}
use Rattle.playing.specs.Play.{Play, after_steps}
use Rattle.playing.specs.Transcript.{step_lines}
use Rattle.playing.proofs.player.Player.go_on.Given as goal

-- the steps that are left lead where all of them do, and give the rest of the lines
abbrev pub invariant-loop : goal.invariant-loop
invariant-loop l =
    let play : Play = record { world = l.self-inside.world.now; steps = l.self-inside.steps } in
    record {
      leads : after_steps l.client (l.most - l.counter) play ≡ after_steps l.client l.most l.fn.self;
      gives :
          l.lines.items ++ step_lines l.client (l.most - l.counter) play
          ≡ l.fn.lines.items ++ step_lines l.client l.most l.fn.self;
    }
