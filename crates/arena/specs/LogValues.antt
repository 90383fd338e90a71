-- The words of a log queue in the form of values.
use Rattle.std.specs.Prelude.{◌≡◌, ℕ, ◌+◌, ◌*◌, ◌-◌, ◌/◌, ◌%◌, ◌<◌, ◌≤◌, Option, Some, None, ◌==◌, nat_lt, if◌then◌else◌, MatchOption}
use Rattle.std.proofs.Common.{arith}
use Rattle.std.proofs.lemmas.Bool.Decides.{nat_tests}
use Rattle.words.specs.declared.call.Kind.TheVariants.{Log}
use Rattle.arena.specs.Shape.{Shape, greatest}
use Rattle.arena.specs.declared.form.Form.TheVariants.{OfValues}
use Rattle.arena.specs.Log.{nodes_from, entry_place}
use Rattle.arena.specs.Place.{IsPlaceIn}
use Rattle.arena.specs.declared.place.Part.TheVariants.{Length, First, Second, Third}
use Rattle.arena.specs.declared.place.Place.{Place}
use Rattle.arena.specs.declared.place.Place.TheVariants.{Head, Tail, Announcement, Bump, Item, Next, Mark, Cell, Insert, Number, EntryKind, Status, EntryNode}

-- where the entries begin, behind nodes of four words each
abbrev pub entries_from : Shape → ℕ
entries_from s = 6 + 2 * s.clients + 4 * greatest s

abbrev pub log_values_size : Shape → ℕ
log_values_size s = 6 + 2 * s.clients + 8 * greatest s

abbrev pub log_values_word : Shape → Place → ℕ
log_values_word s Head = 0
log_values_word s Tail = 1
log_values_word s (Announcement t) = 2 + t.0
log_values_word s (Bump t) = 2 + s.clients + t.0
log_values_word s (Item n First) = nodes_from s + 4 * n.0
log_values_word s (Next n) = nodes_from s + 4 * n.0 + 1
log_values_word s (Insert n) = nodes_from s + 4 * n.0 + 2
log_values_word s (Mark n) = nodes_from s + 4 * n.0 + 3
log_values_word s (Number e) = entries_from s + 4 * (e.0 - 1)
log_values_word s (EntryKind e) = entries_from s + 4 * (e.0 - 1) + 1
log_values_word s (Status e) = entries_from s + 4 * (e.0 - 1) + 2
log_values_word s (EntryNode e) = entries_from s + 4 * (e.0 - 1) + 3
-- the other places are those of a durable queue, and of the form of items
log_values_word s _ = 0

abbrev pub log_values_node_place : ℕ → ℕ → Place
log_values_node_place n field =
    if field == 0 then Item (record { 0 = n }) First
    else (if field == 1 then Next (record { 0 = n })
    else (if field == 2 then Insert (record { 0 = n }) else Mark (record { 0 = n })))

abbrev pub log_values_place : Shape → ℕ → Option Place
log_values_place s w =
    if w == 0 then Some Head
    else (if w == 1 then Some Tail
    else (if nat_lt w (2 + s.clients) then Some (Announcement (record { 0 = w - 2 }))
    else (if nat_lt w (nodes_from s) then Some (Bump (record { 0 = w - 2 - s.clients }))
    else (if nat_lt w (entries_from s)
    then Some (log_values_node_place ((w - nodes_from s) / 4) ((w - nodes_from s) % 4))
    else (if nat_lt w (log_values_size s)
    then Some (entry_place ((w - entries_from s) / 4 + 1) ((w - entries_from s) % 4))
    else None)))))

pub log_values_below : (s : Shape) (p : Place) → s.kind ≡ Log → IsPlaceIn OfValues s p
    → log_values_word s p < log_values_size s
log_values_below s Head kind h = grind arith
log_values_below s Tail kind h = grind arith
log_values_below s (Announcement x) kind h = grind arith
log_values_below s (Bump x) kind h = grind arith
log_values_below s (Item x Length) kind h = absurd h
log_values_below s (Item x First) kind h = grind arith
log_values_below s (Item x Second) kind h = absurd h
log_values_below s (Item x Third) kind h = absurd h
log_values_below s (Next x) kind h = grind arith
log_values_below s (Mark x) kind h = grind arith
log_values_below s (Cell x) kind h = absurd (cc)
log_values_below s (Insert x) kind h = grind arith
log_values_below s (Number x) kind h = grind arith
log_values_below s (EntryKind x) kind h = grind arith
log_values_below s (Status x) kind h = grind arith
log_values_below s (EntryNode x) kind h = grind arith

pub log_values_own : (s : Shape) (p : Place) → s.kind ≡ Log → IsPlaceIn OfValues s p
    → log_values_place s (log_values_word s p) ≡ Some p
log_values_own s Head kind h = grind (arith, nat_tests)
log_values_own s Tail kind h = grind (arith, nat_tests)
log_values_own s (Announcement x) kind h = grind (arith, nat_tests)
log_values_own s (Bump x) kind h = grind (arith, nat_tests)
log_values_own s (Item x Length) kind h = absurd h
log_values_own s (Item x First) kind h = grind (arith, nat_tests)
log_values_own s (Item x Second) kind h = absurd h
log_values_own s (Item x Third) kind h = absurd h
log_values_own s (Next x) kind h = grind (arith, nat_tests)
log_values_own s (Mark x) kind h = grind (arith, nat_tests)
log_values_own s (Cell x) kind h = absurd (cc)
log_values_own s (Insert x) kind h = grind (arith, nat_tests)
log_values_own s (Number x) kind h = grind (arith, nat_tests)
log_values_own s (EntryKind x) kind h = grind (arith, nat_tests)
log_values_own s (Status x) kind h = grind (arith, nat_tests)
log_values_own s (EntryNode x) kind h = grind (arith, nat_tests)

pub log_values_named : (s : Shape) (w : ℕ) → s.kind ≡ Log
    → MatchOption (log_values_place s w) (log_values_size s ≤ w)
    (λ p. IsPlaceIn OfValues s p × (log_values_word s p ≡ w))
log_values_named s w kind = grind (arith, nat_tests)
