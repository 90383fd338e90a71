use Rattle.std.proofs.Common.{◌≡◌, ◌∷◌, length, take, flat_map}
use Rattle.playing.specs.Transcript.{entry_lines}
use Rattle.playing.specs.declared.lines.Line.TheVariants.{Order}
use Rattle.broker_script.proofs.calling.order_lines.Given as goal

-- the entries so far are shown
abbrev pub invariant-loop-entry : goal.invariant-loop-entry
invariant-loop-entry l =
    l.lines.items ≡ Order (length l.entries) ∷ flat_map (entry_lines l.events.items) (take l.entry-index l.entries)
