-- What the nested loops of the plain checker look at.
use Rattle.std.specs.Prelude.{ℕ, ◌≡◌, List, Some, slice_get}
use Rattle.events.specs.declared.event.Event.{Event}
use Rattle.events.specs.declared.event.Entry.{Entry}
use Rattle.events.specs.History.{Precedes}

-- the call of the entry at i precedes none that stands at j
pub record IsNotAfter (events : List Event) (order : List Entry) (i j : ℕ) : Type 0 where
  pub none : (x y : Entry) → slice_get order i ≡ Some x → slice_get order j ≡ Some y
      → Precedes events x.place y.place → ⊥
