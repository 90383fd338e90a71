use Rattle.std.proofs.Common.{◌≡◌}
use Rattle.test_refusals.proofs.shareds.play_parts.Given as goal

-- it is the same client's seat
abbrev pub invariant-loop-part : goal.invariant-loop-part
invariant-loop-part g l = l.seat.client ≡ l.initial.seat.client
