use Rattle.std.proofs.Common.{◌≡◌}
use Rattle.playing.specs.Transcript.{told_at, told_lines}
use Rattle.broker_script.specs.Play.{the_world}
use Rattle.broker_script.proofs.player.Player.told_of_queue.Given as goal

-- the clients so far are told
abbrev pub invariant-loop-number : goal.invariant-loop-number
invariant-loop-number l =
    l.lines.items ≡ told_lines (told_at (the_world l.fn.self.broker l.slot.0)) l.number
