use Rattle.std.proofs.Common.{◌≡◌}
use Rattle.test_refusals.proofs.shareds.begin_anew.Given as goal

-- it is the same client's seat
abbrev pub invariant-loop : goal.invariant-loop
invariant-loop g l = l.seat.client ≡ l.initial.seat.client
