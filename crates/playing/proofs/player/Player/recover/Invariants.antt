use Rattle.std.proofs.Common.{◌≡◌, ◌⊎◌, ℕ, ◌<◌, ◌≤◌, ◌++◌}
use Rattle.interleave.specs.State.{steps_to_ready}
use Rattle.playing.specs.Play.{after_recovery, most_recovery}
use Rattle.playing.specs.Transcript.{recovery_lines}
use Rattle.playing.proofs.player.Player.recover.Given as goal

-- so many steps are left: all of them, or as many as recovery needs, and it needs some; they lead where all of them do,
-- and give the rest of the lines
abbrev pub invariant-loop : goal.invariant-loop
invariant-loop l =
    record {
      left : ℕ;
      enough :
          (left ≡ most_recovery l.self.world)
          ⊎ ((0 < steps_to_ready l.self.world) × (steps_to_ready l.self.world ≤ left));
      leads : after_recovery left l.self ≡ after_recovery (most_recovery l.fn.self.world) l.fn.self;
      gives :
          l.lines.items ++ recovery_lines left l.self
          ≡ l.fn.lines.items ++ recovery_lines (most_recovery l.fn.self.world) l.fn.self;
    }

abbrev pub decreases-loop : goal.decreases-loop
decreases-loop l =
    steps_to_ready l.self.world
