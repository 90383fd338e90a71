-- The range of each word's value.
use Rattle.std.specs.Prelude.{ℕ, ◌+◌, ◌≤◌}
use Rattle.words.specs.declared.limits.TheConstants.{MAX_CALL_NUMBER}
use Rattle.arena.specs.declared.codes.TheConstants.{GOT_CELL}
use Rattle.arena.specs.Shape.{Shape, greatest}
use Rattle.arena.specs.declared.place.Place.{Place}
use Rattle.arena.specs.declared.place.Place.TheVariants.{Head, Tail, Announcement, Bump, Item, Next, Mark, Cell, Insert, Number, EntryKind, Status, EntryNode}

abbrev pub Fits : Shape → Place → ℕ → Type 0
Fits s Head v = v ≤ greatest s
Fits s Tail v = v ≤ greatest s
Fits s (Announcement t) v = v ≤ greatest s
Fits s (Bump t) v = v ≤ s.records
-- a part has no range of its own: what four parts may be is said of them together
Fits s (Item n part) v = Unit {0}
Fits s (Next n) v = v ≤ greatest s
Fits s (Mark n) v = v ≤ greatest s
Fits s (Cell c) v = v ≤ greatest s + GOT_CELL
Fits s (Insert n) v = v ≤ greatest s
Fits s (Number e) v = v ≤ MAX_CALL_NUMBER
Fits s (EntryKind e) v = v ≤ 2
Fits s (Status e) v = v ≤ 2
Fits s (EntryNode e) v = v ≤ greatest s

-- the words that calls read; of the others recovery reads some, and knows that those are right
abbrev pub IsReadByCalls : Place → Type 0
IsReadByCalls (Insert n) = ⊥
IsReadByCalls (Number e) = ⊥
IsReadByCalls (EntryNode e) = ⊥
IsReadByCalls _ = Unit {0}
