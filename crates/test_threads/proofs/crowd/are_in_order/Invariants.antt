use Rattle.std.proofs.Common.{ℕ, ◌<◌}
use Rattle.test_threads.specs.Orders.{IsClientAt}
use Rattle.test_threads.proofs.crowd.are_in_order.Given as goal

abbrev pub invariant-loop-k : goal.invariant-loop-k
invariant-loop-k g l = (k : ℕ) → k < l.k → IsClientAt (λ seat. seat.client) l.seats k
