use Rattle.std.proofs.Common.{◌<◌, ◌≡◌, ◌↔◌, ℕ, IsTrue, slice_get, Some}
use Rattle.events.specs.declared.event.Event.{Event}
use Rattle.events.specs.History.{IsUnderWay}
use Rattle.history.specs.Sweeps.{StandsInTurn}
use Rattle.history.proofs.arising.is_in_turn.Given as goal

abbrev pub invariant-loop-p : goal.invariant-loop-p
invariant-loop-p l = record {
  open_now : IsTrue l.busy ↔ IsUnderWay l.events.items l.client l.p;
  each : (k : ℕ) (event : Event) → k < l.p → slice_get l.events.items k ≡ Some event
      → StandsInTurn l.events.items l.client k event;
}
