use Rattle.std.proofs.Common.{◌<◌, ◌≡◌, ◌↔◌, ℕ, IsTrue, slice_get, Some}
use Rattle.events.specs.declared.event.Event.{Event}
use Rattle.events.specs.History.{IsDown}
use Rattle.history.specs.Sweeps.{StandsUp}
use Rattle.history.proofs.arising.all_stand_up.Given as goal

abbrev pub invariant-loop-p : goal.invariant-loop-p
invariant-loop-p l = record {
  down_now : IsTrue l.down ↔ IsDown l.events.items l.p;
  each : (k : ℕ) (event : Event) → k < l.p → slice_get l.events.items k ≡ Some event → StandsUp l.events.items k event;
}
