use Rattle.std.proofs.Common.{◌<◌, ◌≡◌, ℕ, slice_get, Some}
use Rattle.events.specs.declared.event.Event.{Event}
use Rattle.findings.specs.Ends.{IsBelow}
use Rattle.findings.proofs.facts.client_count.Given as goal

abbrev pub invariant-loop-p : goal.invariant-loop-p
invariant-loop-p l = (k : ℕ) (event : Event) → k < l.p → slice_get l.facts.events k ≡ Some event → IsBelow l.count event
