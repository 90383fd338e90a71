use Rattle.std.proofs.Common.{◌≡◌, ◌++◌, take, flat_map}
use Rattle.playing.specs.Transcript.{entry_lines}
use Rattle.playing.proofs.player.show_entries.Given as goal

-- the entries so far are shown
abbrev pub invariant-loop-entry : goal.invariant-loop-entry
invariant-loop-entry l = l.lines.items ≡ l.fn.lines.items ++ flat_map (entry_lines l.events.items) (take l.entry-index l.entries)
