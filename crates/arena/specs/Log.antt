-- The words of a log queue in the form of items.
use Rattle.std.specs.Prelude.{◌≡◌, ℕ, ◌+◌, ◌*◌, ◌-◌, ◌/◌, ◌%◌, ◌<◌, ◌≤◌, Option, Some, None, ◌==◌, nat_lt, if◌then◌else◌, MatchOption}
use Rattle.std.proofs.Common.{arith}
use Rattle.std.proofs.lemmas.Bool.Decides.{nat_tests}
use Rattle.words.specs.declared.call.Kind.TheVariants.{Log}
use Rattle.arena.specs.Shape.{Shape, greatest}
use Rattle.arena.specs.declared.form.Form.TheVariants.{OfItems}
use Rattle.arena.specs.Place.{IsPlaceIn}
use Rattle.arena.specs.declared.place.Part.TheVariants.{Length, First, Second, Third}
use Rattle.arena.specs.declared.place.Place.{Place}
use Rattle.arena.specs.declared.place.Place.TheVariants.{Head, Tail, Announcement, Bump, Item, Next, Mark, Cell, Insert, Number, EntryKind, Status, EntryNode}

-- where the nodes begin, seven words each, and where the entries do, four words each
abbrev pub nodes_from : Shape → ℕ
nodes_from s = 2 + 2 * s.clients

abbrev pub entries_from : Shape → ℕ
entries_from s = 9 + 2 * s.clients + 7 * greatest s

abbrev pub log_size : Shape → ℕ
log_size s = 9 + 2 * s.clients + 11 * greatest s

abbrev pub log_word : Shape → Place → ℕ
log_word s Head = 0
log_word s Tail = 1
log_word s (Announcement t) = 2 + t.0
log_word s (Bump t) = 2 + s.clients + t.0
log_word s (Item n Length) = nodes_from s + 7 * n.0
log_word s (Item n First) = nodes_from s + 7 * n.0 + 1
log_word s (Item n Second) = nodes_from s + 7 * n.0 + 2
log_word s (Item n Third) = nodes_from s + 7 * n.0 + 3
log_word s (Next n) = nodes_from s + 7 * n.0 + 4
log_word s (Insert n) = nodes_from s + 7 * n.0 + 5
log_word s (Mark n) = nodes_from s + 7 * n.0 + 6
log_word s (Number e) = entries_from s + 4 * (e.0 - 1)
log_word s (EntryKind e) = entries_from s + 4 * (e.0 - 1) + 1
log_word s (Status e) = entries_from s + 4 * (e.0 - 1) + 2
log_word s (EntryNode e) = entries_from s + 4 * (e.0 - 1) + 3
-- the other place is one of a durable queue
log_word s (Cell c) = 0

abbrev pub log_node_place : ℕ → ℕ → Place
log_node_place n field =
    if field == 0 then Item (record { 0 = n }) Length
    else (if field == 1 then Item (record { 0 = n }) First
    else (if field == 2 then Item (record { 0 = n }) Second
    else (if field == 3 then Item (record { 0 = n }) Third
    else (if field == 4 then Next (record { 0 = n })
    else (if field == 5 then Insert (record { 0 = n }) else Mark (record { 0 = n }))))))

abbrev pub entry_place : ℕ → ℕ → Place
entry_place e field =
    if field == 0 then Number (record { 0 = e })
    else (if field == 1 then EntryKind (record { 0 = e })
    else (if field == 2 then Status (record { 0 = e }) else EntryNode (record { 0 = e })))

abbrev pub log_place : Shape → ℕ → Option Place
log_place s w =
    if w == 0 then Some Head
    else (if w == 1 then Some Tail
    else (if nat_lt w (2 + s.clients) then Some (Announcement (record { 0 = w - 2 }))
    else (if nat_lt w (nodes_from s) then Some (Bump (record { 0 = w - 2 - s.clients }))
    else (if nat_lt w (entries_from s) then Some (log_node_place ((w - nodes_from s) / 7) ((w - nodes_from s) % 7))
    else (if nat_lt w (log_size s) then Some (entry_place ((w - entries_from s) / 4 + 1) ((w - entries_from s) % 4))
    else None)))))

pub log_below : (s : Shape) (p : Place) → s.kind ≡ Log → IsPlaceIn OfItems s p → log_word s p < log_size s
log_below s Head kind h = grind arith
log_below s Tail kind h = grind arith
log_below s (Announcement x) kind h = grind arith
log_below s (Bump x) kind h = grind arith
log_below s (Item x Length) kind h = grind arith
log_below s (Item x First) kind h = grind arith
log_below s (Item x Second) kind h = grind arith
log_below s (Item x Third) kind h = grind arith
log_below s (Next x) kind h = grind arith
log_below s (Mark x) kind h = grind arith
log_below s (Cell x) kind h = absurd (cc)
log_below s (Insert x) kind h = grind arith
log_below s (Number x) kind h = grind arith
log_below s (EntryKind x) kind h = grind arith
log_below s (Status x) kind h = grind arith
log_below s (EntryNode x) kind h = grind arith

pub log_own : (s : Shape) (p : Place) → s.kind ≡ Log → IsPlaceIn OfItems s p → log_place s (log_word s p) ≡ Some p
log_own s Head kind h = grind (arith, nat_tests)
log_own s Tail kind h = grind (arith, nat_tests)
log_own s (Announcement x) kind h = grind (arith, nat_tests)
log_own s (Bump x) kind h = grind (arith, nat_tests)
log_own s (Item x Length) kind h = grind (arith, nat_tests)
log_own s (Item x First) kind h = grind (arith, nat_tests)
log_own s (Item x Second) kind h = grind (arith, nat_tests)
log_own s (Item x Third) kind h = grind (arith, nat_tests)
log_own s (Next x) kind h = grind (arith, nat_tests)
log_own s (Mark x) kind h = grind (arith, nat_tests)
log_own s (Cell x) kind h = absurd (cc)
log_own s (Insert x) kind h = grind (arith, nat_tests)
log_own s (Number x) kind h = grind (arith, nat_tests)
log_own s (EntryKind x) kind h = grind (arith, nat_tests)
log_own s (Status x) kind h = grind (arith, nat_tests)
log_own s (EntryNode x) kind h = grind (arith, nat_tests)

pub log_named : (s : Shape) (w : ℕ) → s.kind ≡ Log
    → MatchOption (log_place s w) (log_size s ≤ w) (λ p. IsPlaceIn OfItems s p × (log_word s p ≡ w))
log_named s w kind = grind (arith, nat_tests)
