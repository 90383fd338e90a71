-- A preparation writes at places of the layout.
use Rattle.std.proofs.Common.{ℕ, zero, suc, ◌≡◌, ◌≤◌, List, [], ◌∷◌, Some, slice_get, refl, subst}
use Rattle.words.specs.declared.call.Call.{Call}
use Rattle.words.specs.declared.call.Call.TheVariants.{Enq, Deq}
use Rattle.words.specs.declared.call.Kind.{Kind}
use Rattle.words.specs.declared.call.Kind.TheVariants.{Durable, Log}
use Rattle.arena.specs.Place.{IsPlace, IsRecord}
use Rattle.arena.specs.Shape.{Shape, greatest}
use Rattle.arena.specs.declared.place.Write.{Write}
use Rattle.stepper.specs.declared.prepare.Begun.{Begun}
use Rattle.stepper.specs.Preparation.{preparation_from, IsBegun, IsPreparing}

abbrev AreAtPlaces : Shape → List Write → Type 0
AreAtPlaces s [] = Unit {0}
AreAtPlaces s (w ∷ ws) = IsPlace s w.place × AreAtPlaces s ws

one_of : (s : Shape) (ws : List Write) (i : ℕ) (w : Write) → AreAtPlaces s ws → slice_get ws i ≡ Some w → IsPlace s w.place
one_of s [] i w each at = absurd cc
one_of s (x ∷ ws) zero w each at = let same : x ≡ w = cc in subst (λ (v : Write). IsPlace s v.place) same each.0
one_of s (x ∷ ws) (suc i) w each at = one_of s ws i w each.1 at

prepares : (s : Shape) (b : Begun) → IsBegun s b → (kind : Kind) (call : Call) → s.kind ≡ kind → AreAtPlaces s (preparation_from kind call b)
prepares s b begun Durable (Enq value) is =
    let node : b.token.0 ≤ greatest s = begun.is_record.1 in
    (begun.client, (node, (node, (node, (node, tt)))))
prepares s b begun Durable Deq is = (begun.client, (begun.client, tt))
prepares s b begun Log (Enq value) is =
    let node : b.token.0 ≤ greatest s = begun.is_record.1 in
    let entry : (s.kind ≡ Log) × IsRecord s b.token.0 = (is, begun.is_record) in
    (begun.client, (entry, (entry, (entry, (node, (node, (node, (node, ((is, node), (begun.client, tt))))))))))
prepares s b begun Log Deq is =
    let entry : (s.kind ≡ Log) × IsRecord s b.token.0 = (is, begun.is_record) in
    (begun.client, (entry, (entry, (begun.client, tt))))

-- so is the write in hand
pub at_place : (s : Shape) (b : Begun) (index : ℕ) (w : Write) → IsPreparing s b index w → IsPlace s w.place
at_place s b index w is = one_of s (preparation_from s.kind b.call b) index w (prepares s b is.begun s.kind b.call refl) is.in_hand
