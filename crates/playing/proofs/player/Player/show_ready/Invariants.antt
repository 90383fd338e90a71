use Rattle.std.proofs.Common.{◌≡◌, ◌++◌, ◌∷◌}
use Rattle.playing.specs.Transcript.{told_at, told_lines}
use Rattle.playing.specs.declared.lines.Line.TheVariants.{Ready}
use Rattle.playing.proofs.player.Player.show_ready.Given as goal

-- the clients so far are told
abbrev pub invariant-loop-number : goal.invariant-loop-number
invariant-loop-number l =
    l.lines.items ≡ l.fn.lines.items ++ Ready l.fn.self.steps.recovery ∷ told_lines (told_at l.fn.self.world) l.number
