use Rattle.std.proofs.Common.{◌≡◌, ◌-◌, ◌++◌}
use Rattle.playing.specs.Play.{after_recovery}
use Rattle.playing.specs.Transcript.{recovery_lines}
use Rattle.playing.proofs.player.Player.recover_by.Given as goal

-- the steps that are left lead where all of them do, and give the rest of the lines
abbrev pub invariant-loop : goal.invariant-loop
invariant-loop l =
    record {
      leads : after_recovery (l.most - l.counter) l.self ≡ after_recovery l.most l.fn.self;
      gives :
          l.lines.items ++ recovery_lines (l.most - l.counter) l.self
          ≡ l.fn.lines.items ++ recovery_lines l.most l.fn.self;
    }
