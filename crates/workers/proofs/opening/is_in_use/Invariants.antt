use Rattle.std.proofs.Common.{◌<◌, ℕ}
use Rattle.workers.specs.Opening.{HasNoCall}
use Rattle.workers.proofs.opening.is_in_use.Given as goal

abbrev pub invariant-loop-slot : goal.invariant-loop-slot
invariant-loop-slot l = (k : ℕ) → k < l.slot → HasNoCall l.session.broker k
