use Rattle.std.proofs.Common.{◌≡◌}
use Rattle.test_threads.proofs.crowd.sent_until_answered.Given as goal

abbrev pub invariant-loop : goal.invariant-loop
invariant-loop g l = l.seat.client ≡ l.initial.seat.client
