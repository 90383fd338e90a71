use Rattle.std.proofs.Common.{◌≡◌}
use Rattle.test_threads.proofs.crowd.all_sent.Given as goal

abbrev pub invariant-loop-call : goal.invariant-loop-call
invariant-loop-call g l = l.seat.client ≡ l.initial.seat.client
