use Rattle.std.proofs.Common.{◌<◌, ◌≡◌, ℕ, slice_get, Some}
use Rattle.events.specs.declared.event.Event.{Event}
use Rattle.history.specs.Sweeps.{HasClient}
use Rattle.history.proofs.arising.has_clients.Given as goal

abbrev pub invariant-loop-p : goal.invariant-loop-p
invariant-loop-p l = (k : ℕ) (event : Event) → k < l.p → slice_get l.events.items k ≡ Some event → HasClient event
