-- Words as they lie in a memory, shown by their places.
use Rattle.std.specs.Prelude.{ℕ, Bool, true, false, ◌&&◌, nat_lt, nat_le, List, slice_index, if◌then◌else◌}
use Rattle.words.specs.declared.call.Kind.{Kind}
use Rattle.words.specs.declared.call.Kind.TheVariants.{Durable, Log}
use Rattle.persist.specs.Memory.{Words}
use Rattle.arena.specs.Layout.{word_at}
use Rattle.arena.specs.Shape.{Shape, greatest}
use Rattle.arena.specs.declared.place.Place.{Place}
use Rattle.arena.specs.declared.place.Place.TheVariants.{Head, Tail, Announcement, Bump, Item, Next, Mark, Cell, Insert, Number, EntryKind, Status, EntryNode}
use Rattle.protocol.specs.Machine.{Memory}

abbrev pub is_durable : Kind → Bool
is_durable Durable = true
is_durable Log = false

abbrev pub is_log : Kind → Bool
is_log Durable = false
is_log Log = true

abbrev pub is_record : Shape → ℕ → Bool
is_record s c = nat_le 1 c && nat_le c (greatest s)

-- whether the layout has the place
abbrev pub is_place : Shape → Place → Bool
is_place s Head = true
is_place s Tail = true
is_place s (Announcement t) = nat_lt t.0 s.clients
is_place s (Bump t) = nat_lt t.0 s.clients
is_place s (Item n part) = nat_le n.0 (greatest s)
is_place s (Next n) = nat_le n.0 (greatest s)
is_place s (Mark n) = nat_le n.0 (greatest s)
is_place s (Cell c) = is_durable s.kind && is_record s c.0
is_place s (Insert n) = is_log s.kind && nat_le n.0 (greatest s)
is_place s (Number e) = is_log s.kind && is_record s e.0
is_place s (EntryKind e) = is_log s.kind && is_record s e.0
is_place s (Status e) = is_log s.kind && is_record s e.0
is_place s (EntryNode e) = is_log s.kind && is_record s e.0

-- the value of each place, and 0 where there is no such place
abbrev pub value_of_place : Shape → List ℕ → Place → ℕ
value_of_place s ws p = if is_place s p then slice_index ws (word_at s p) else 0

abbrev pub memory_by_place : Shape → Words → Memory
memory_by_place s ws = record { cached = value_of_place s ws.cached; kept = value_of_place s ws.kept }
