-- The places of a layout, which of them a layout has, and when two are one.
use Rattle.std.specs.Prelude.{◌≡◌, ℕ, zero, suc, ◌≤◌, ◌<◌, Bool, true, ◌&&◌, ◌==◌, refl}
use Rattle.std.proofs.Common.{arith}
use Rattle.std.proofs.lemmas.Bool.Decides.{nat_tests}
use Rattle.words.specs.declared.call.Kind.TheVariants.{Durable, Log}
use Rattle.arena.specs.Shape.{Shape, greatest}
use Rattle.words.specs.declared.call.NodeId.{NodeId}
use Rattle.arena.specs.Form.{running}
use Rattle.arena.specs.declared.form.Form.{Form}
use Rattle.arena.specs.declared.form.Form.TheVariants.{OfValues, OfItems}
use Rattle.arena.specs.declared.place.Part.{Part}
use Rattle.arena.specs.declared.place.Part.TheVariants.{Length, First, Second, Third}
use Rattle.arena.specs.declared.place.Place.{Place}
use Rattle.arena.specs.declared.place.Place.TheVariants.{Head, Tail, Announcement, Bump, Item, Next, Mark, Cell, Insert, Number, EntryKind, Status, EntryNode}

abbrev pub kind_of : Place → ℕ
kind_of Head = 0
kind_of Tail = 1
kind_of (Announcement x) = 2
kind_of (Bump x) = 3
kind_of (Item x part) = 4
kind_of (Next x) = 5
kind_of (Mark x) = 6
kind_of (Cell x) = 7
kind_of (Insert x) = 8
kind_of (Number x) = 9
kind_of (EntryKind x) = 10
kind_of (Status x) = 11
kind_of (EntryNode x) = 12

abbrev pub number_of : Place → ℕ
number_of Head = 0
number_of Tail = 0
number_of (Announcement x) = x.0
number_of (Bump x) = x.0
number_of (Item x part) = x.0
number_of (Next x) = x.0
number_of (Mark x) = x.0
number_of (Cell x) = x.0
number_of (Insert x) = x.0
number_of (Number x) = x.0
number_of (EntryKind x) = x.0
number_of (Status x) = x.0
number_of (EntryNode x) = x.0

abbrev pub part_number : Part → ℕ
part_number Length = 0
part_number First = 1
part_number Second = 2
part_number Third = 3

abbrev pub part_of : Place → ℕ
part_of (Item x part) = part_number part
part_of _ = 0

-- whether two places are one
abbrev pub is_same : Place → Place → Bool
is_same p q = (kind_of p == kind_of q) && ((part_of p == part_of q) && (number_of p == number_of q))

-- a client of the layout, a node, and a record of a call
abbrev pub IsClient : Shape → ℕ → Type 0
IsClient s t = t < s.clients

abbrev pub IsNode : Shape → ℕ → Type 0
IsNode s n = n ≤ greatest s

abbrev pub IsRecord : Shape → ℕ → Type 0
IsRecord s c = (1 ≤ c) × (c ≤ greatest s)

-- the node has the part: of an item all four, of a value the first word alone
abbrev pub IsPartIn : Form → Shape → NodeId → Part → Type 0
IsPartIn OfItems s n part = IsNode s n.0
IsPartIn OfValues s n First = IsNode s n.0
IsPartIn OfValues s n _ = ⊥

-- the layout of this form has the place
abbrev pub IsPlaceIn : Form → Shape → Place → Type 0
IsPlaceIn form s Head = Unit {0}
IsPlaceIn form s Tail = Unit {0}
IsPlaceIn form s (Announcement t) = IsClient s t.0
IsPlaceIn form s (Bump t) = IsClient s t.0
IsPlaceIn form s (Item n part) = IsPartIn form s n part
IsPlaceIn form s (Next n) = IsNode s n.0
IsPlaceIn form s (Mark n) = IsNode s n.0
IsPlaceIn form s (Cell c) = (s.kind ≡ Durable) × IsRecord s c.0
IsPlaceIn form s (Insert n) = (s.kind ≡ Log) × IsNode s n.0
IsPlaceIn form s (Number e) = (s.kind ≡ Log) × IsRecord s e.0
IsPlaceIn form s (EntryKind e) = (s.kind ≡ Log) × IsRecord s e.0
IsPlaceIn form s (Status e) = (s.kind ≡ Log) × IsRecord s e.0
IsPlaceIn form s (EntryNode e) = (s.kind ≡ Log) × IsRecord s e.0

-- the layout that queues run in has it
abbrev pub IsPlace : Shape → Place → Type 0
IsPlace = IsPlaceIn running

part_from : ℕ → Part
part_from zero = Length
part_from (suc zero) = First
part_from (suc (suc zero)) = Second
part_from (suc (suc (suc k))) = Third

place_from : ℕ → ℕ → ℕ → Place
place_from zero part x = Head
place_from (suc zero) part x = Tail
place_from (suc (suc zero)) part x = Announcement (record { 0 = x })
place_from (suc (suc (suc zero))) part x = Bump (record { 0 = x })
place_from (suc (suc (suc (suc zero)))) part x = Item (record { 0 = x }) (part_from part)
place_from (suc (suc (suc (suc (suc zero))))) part x = Next (record { 0 = x })
place_from (suc (suc (suc (suc (suc (suc zero)))))) part x = Mark (record { 0 = x })
place_from (suc (suc (suc (suc (suc (suc (suc zero))))))) part x = Cell (record { 0 = x })
place_from (suc (suc (suc (suc (suc (suc (suc (suc zero)))))))) part x = Insert (record { 0 = x })
place_from (suc (suc (suc (suc (suc (suc (suc (suc (suc zero))))))))) part x = Number (record { 0 = x })
place_from (suc (suc (suc (suc (suc (suc (suc (suc (suc (suc zero)))))))))) part x = EntryKind (record { 0 = x })
place_from (suc (suc (suc (suc (suc (suc (suc (suc (suc (suc (suc zero))))))))))) part x = Status (record { 0 = x })
place_from (suc (suc (suc (suc (suc (suc (suc (suc (suc (suc (suc (suc k)))))))))))) part x = EntryNode (record { 0 = x })

place_from-of : (p : Place) → place_from (kind_of p) (part_of p) (number_of p) ≡ p
unfolding place_from part_from
place_from-of Head = refl
place_from-of Tail = refl
place_from-of (Announcement x) = refl
place_from-of (Bump x) = refl
place_from-of (Item x Length) = refl
place_from-of (Item x First) = refl
place_from-of (Item x Second) = refl
place_from-of (Item x Third) = refl
place_from-of (Next x) = refl
place_from-of (Mark x) = refl
place_from-of (Cell x) = refl
place_from-of (Insert x) = refl
place_from-of (Number x) = refl
place_from-of (EntryKind x) = refl
place_from-of (Status x) = refl
place_from-of (EntryNode x) = refl

pub is_same-true : (p q : Place) → is_same p q ≡ true → p ≡ q
is_same-true p q h =
    let kinds : kind_of p ≡ kind_of q = grind (arith, nat_tests) in
    let parts : part_of p ≡ part_of q = grind (arith, nat_tests) in
    let numbers : number_of p ≡ number_of q = grind (arith, nat_tests) in
    cc (place_from-of p, place_from-of q)

pub is_same-from : (p q : Place) → p ≡ q → is_same p q ≡ true
is_same-from p q e = rw e (grind (arith, nat_tests))
