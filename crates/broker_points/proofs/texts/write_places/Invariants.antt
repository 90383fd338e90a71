use Rattle.std.proofs.Common.{◌≡◌, ◌++◌, string_bytes}
use Rattle.broker_points.specs.Reports.{places_text}
use Rattle.broker_points.proofs.texts.write_places.Given as goal

-- the queues of the slots so far are written
abbrev pub invariant-loop-slot : goal.invariant-loop-slot
invariant-loop-slot l = string_bytes l.text ≡ string_bytes l.fn.text ++ places_text l.broker l.slot
