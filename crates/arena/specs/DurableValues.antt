-- The words of a durable queue in the form of values.
use Rattle.std.specs.Prelude.{◌≡◌, ℕ, ◌+◌, ◌*◌, ◌-◌, ◌/◌, ◌%◌, ◌<◌, ◌≤◌, Option, Some, None, ◌==◌, nat_lt, if◌then◌else◌, MatchOption}
use Rattle.std.proofs.Common.{arith}
use Rattle.std.proofs.lemmas.Bool.Decides.{nat_tests}
use Rattle.words.specs.declared.call.Kind.TheVariants.{Durable}
use Rattle.arena.specs.Shape.{Shape, greatest}
use Rattle.arena.specs.declared.form.Form.TheVariants.{OfValues}
use Rattle.arena.specs.Durable.{nodes_from}
use Rattle.arena.specs.Place.{IsPlaceIn}
use Rattle.arena.specs.declared.place.Part.TheVariants.{Length, First, Second, Third}
use Rattle.arena.specs.declared.place.Place.{Place}
use Rattle.arena.specs.declared.place.Place.TheVariants.{Head, Tail, Announcement, Bump, Item, Next, Mark, Cell, Insert, Number, EntryKind, Status, EntryNode}

-- where the cells begin, behind nodes of three words each
abbrev pub cells_from : Shape → ℕ
cells_from s = 5 + 2 * s.clients + 3 * greatest s

abbrev pub durable_values_size : Shape → ℕ
durable_values_size s = 5 + 2 * s.clients + 4 * greatest s

abbrev pub durable_values_word : Shape → Place → ℕ
durable_values_word s Head = 0
durable_values_word s Tail = 1
durable_values_word s (Announcement t) = 2 + t.0
durable_values_word s (Bump t) = 2 + s.clients + t.0
durable_values_word s (Item n First) = nodes_from s + 3 * n.0
durable_values_word s (Next n) = nodes_from s + 3 * n.0 + 1
durable_values_word s (Mark n) = nodes_from s + 3 * n.0 + 2
durable_values_word s (Cell c) = cells_from s + c.0 - 1
-- the other places are those of a log queue, and of the form of items
durable_values_word s _ = 0

abbrev pub durable_values_node_place : ℕ → ℕ → Place
durable_values_node_place n field =
    if field == 0 then Item (record { 0 = n }) First
    else (if field == 1 then Next (record { 0 = n }) else Mark (record { 0 = n }))

abbrev pub durable_values_place : Shape → ℕ → Option Place
durable_values_place s w =
    if w == 0 then Some Head
    else (if w == 1 then Some Tail
    else (if nat_lt w (2 + s.clients) then Some (Announcement (record { 0 = w - 2 }))
    else (if nat_lt w (nodes_from s) then Some (Bump (record { 0 = w - 2 - s.clients }))
    else (if nat_lt w (cells_from s)
    then Some (durable_values_node_place ((w - nodes_from s) / 3) ((w - nodes_from s) % 3))
    else (if nat_lt w (durable_values_size s) then Some (Cell (record { 0 = w - cells_from s + 1 }))
    else None)))))

pub durable_values_below : (s : Shape) (p : Place) → s.kind ≡ Durable → IsPlaceIn OfValues s p
    → durable_values_word s p < durable_values_size s
durable_values_below s Head kind h = grind arith
durable_values_below s Tail kind h = grind arith
durable_values_below s (Announcement x) kind h = grind arith
durable_values_below s (Bump x) kind h = grind arith
durable_values_below s (Item x Length) kind h = absurd h
durable_values_below s (Item x First) kind h = grind arith
durable_values_below s (Item x Second) kind h = absurd h
durable_values_below s (Item x Third) kind h = absurd h
durable_values_below s (Next x) kind h = grind arith
durable_values_below s (Mark x) kind h = grind arith
durable_values_below s (Cell x) kind h = grind arith
durable_values_below s (Insert x) kind h = absurd (cc)
durable_values_below s (Number x) kind h = absurd (cc)
durable_values_below s (EntryKind x) kind h = absurd (cc)
durable_values_below s (Status x) kind h = absurd (cc)
durable_values_below s (EntryNode x) kind h = absurd (cc)

pub durable_values_own : (s : Shape) (p : Place) → s.kind ≡ Durable → IsPlaceIn OfValues s p
    → durable_values_place s (durable_values_word s p) ≡ Some p
durable_values_own s Head kind h = grind (arith, nat_tests)
durable_values_own s Tail kind h = grind (arith, nat_tests)
durable_values_own s (Announcement x) kind h = grind (arith, nat_tests)
durable_values_own s (Bump x) kind h = grind (arith, nat_tests)
durable_values_own s (Item x Length) kind h = absurd h
durable_values_own s (Item x First) kind h = grind (arith, nat_tests)
durable_values_own s (Item x Second) kind h = absurd h
durable_values_own s (Item x Third) kind h = absurd h
durable_values_own s (Next x) kind h = grind (arith, nat_tests)
durable_values_own s (Mark x) kind h = grind (arith, nat_tests)
durable_values_own s (Cell x) kind h = grind (arith, nat_tests)
durable_values_own s (Insert x) kind h = absurd (cc)
durable_values_own s (Number x) kind h = absurd (cc)
durable_values_own s (EntryKind x) kind h = absurd (cc)
durable_values_own s (Status x) kind h = absurd (cc)
durable_values_own s (EntryNode x) kind h = absurd (cc)

pub durable_values_named : (s : Shape) (w : ℕ) → s.kind ≡ Durable
    → MatchOption (durable_values_place s w) (durable_values_size s ≤ w)
    (λ p. IsPlaceIn OfValues s p × (durable_values_word s p ≡ w))
durable_values_named s w kind = grind (arith, nat_tests)
