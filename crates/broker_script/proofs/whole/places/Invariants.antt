use Rattle.std.proofs.Common.{◌≡◌}
use Rattle.broker_script.specs.Transcript.{places_below}
use Rattle.broker_script.proofs.whole.places.Given as goal

-- the places so far are shown
abbrev pub invariant-loop-slot : goal.invariant-loop-slot
invariant-loop-slot l = l.lines.items ≡ places_below l.places l.slot
