-- Seats that are put in their clients' places, all in turn, and all taken from there.
use Rattle.std.proofs.Common.{◌≡◌, ◌≢◌, ℕ, zero, suc, ◌<◌, List, [], ◌∷◌, ◌++◌, length, map, Option, Some, slice_get}
use Rattle.std.proofs.Common.{refl, sym, ap, ◌∙◌, subst, ⊎_elim, arith}
use Rattle.std.specs.Prelude.{slice_set}
use Rattle.std.proofs.lemmas.List.{append-nil, append_assoc, length-map}
use Rattle.std.proofs.lemmas.Option.{same_Some, slice_get_within}
use Rattle.words.specs.declared.call.Client.{Client}
use Rattle.events.proofs.Facts.{get_push_cases}
use Rattle.workers.specs.Seats.{AreAllInOrder}
use Rattle.seating.specs.Seating.{AreBack, AreInPlaces}

-- what stands between two parts
pub get_middle : {X : Type 0} (xs : List X) (x : X) (ys : List X) → slice_get (xs ++ x ∷ ys) (length xs) ≡ Some x
get_middle [] x ys = refl
get_middle (z ∷ xs) x ys = get_middle xs x ys

get_some : {S : Type 0} (seats : List S) (k : ℕ) (seat : S) → slice_get (map Some seats) k ≡ Some (Some seat)
    → slice_get seats k ≡ Some seat
get_some [] k seat at = absurd cc
get_some (x ∷ seats) zero seat at = same_Some (Some x) (Some seat) at
get_some (x ∷ seats) (suc k) seat at = get_some seats k seat at

some_get : {S : Type 0} (seats : List S) (k : ℕ) (seat : S) → slice_get seats k ≡ Some seat
    → slice_get (map Some seats) k ≡ Some (Some seat)
some_get [] k seat at = absurd cc
some_get (x ∷ seats) zero seat at = ap Some at
some_get (x ∷ seats) (suc k) seat at = some_get seats k seat at

-- all seats in order, each put in its place
pub places_of_all : {S : Type 0} (client : S → Client) (clients : ℕ) (seats : List S)
    → AreAllInOrder client clients seats → AreInPlaces client clients (map Some seats)
places_of_all client clients seats order = record {
  all = length-map seats Some ∙ order.all;
  each = λ k seat at. order.each k seat (get_some seats k seat at);
}

-- where no place is empty, all seats are there
pub all_of_places : {S : Type 0} (client : S → Client) (clients : ℕ) (seats : List S)
    → AreInPlaces client clients (map Some seats) → AreAllInOrder client clients seats
all_of_places client clients seats places = record {
  all = sym (length-map seats Some) ∙ places.all;
  each = λ k seat at. places.each k seat (some_get seats k seat at);
}

-- all seats that were taken from their places, where none is left
pub all_of_none_left : {S : Type 0} (client : S → Client) (clients : ℕ) (places : List (Option S)) (seats : List S)
    (rest : List (Option S)) → AreInPlaces client clients places → places ≡ map Some seats ++ rest → rest ≡ []
    → AreAllInOrder client clients seats
all_of_none_left {S} client clients places seats rest stood parts none =
    all_of_places client clients seats
    (subst (λ (l : List (Option S)). AreInPlaces client clients l)
    (parts ∙ (ap (λ (l : List (Option S)). map Some seats ++ l) none ∙ append-nil (map Some seats))) stood)

-- all places, where no seat is left to be put
pub places_of_none_left : {S : Type 0} (client : S → Client) (clients : ℕ) (seats placed rest : List S)
    (places : List (Option S)) → AreAllInOrder client clients seats → seats ≡ placed ++ rest → rest ≡ []
    → places ≡ map Some placed → AreInPlaces client clients places
places_of_none_left {S} client clients seats placed rest places order parts none is =
    subst (λ (l : List (Option S)). AreInPlaces client clients l) (sym is)
    (places_of_all client clients placed
    (subst (λ (l : List S). AreAllInOrder client clients l)
    (parts ∙ (ap (λ (l : List S). placed ++ l) none ∙ append-nil placed)) order))

-- one seat more is put
pub parts_after : {S : Type 0} (seats placed was : List S) (seat : S) (rest : List S) → seats ≡ placed ++ was
    → was ≡ seat ∷ rest → seats ≡ placed ++ seat ∷ [] ++ rest
parts_after {S} seats placed was seat rest parts next =
    parts ∙ (ap (λ (l : List S). placed ++ l) next ∙ sym (append_assoc placed (seat ∷ []) rest))

-- its number is how many were put before
pub number_of_next : {S : Type 0} (client : S → Client) (clients : ℕ) (seats placed was : List S) (seat : S)
    (rest : List S) → AreAllInOrder client clients seats → seats ≡ placed ++ was → was ≡ seat ∷ rest
    → (client seat).0 ≡ length placed
number_of_next {S} client clients seats placed was seat rest order parts next =
    let is : seats ≡ placed ++ (seat ∷ rest) = parts ∙ ap (λ (l : List S). placed ++ l) next in
    let at : slice_get seats (length placed) ≡ Some seat =
    ap (λ (l : List S). slice_get l (length placed)) is ∙ get_middle placed seat rest in
    ap (λ (c : Client). c.0) (order.each (length placed) seat at)

-- what was written is read, and all else as it was
get_here : {X : Type 0} (xs : List X) (i : ℕ) (x : X) → i < length xs → slice_get (slice_set xs i x) i ≡ Some x
get_here [] i x h = absurd (omega (arith, h))
get_here (y ∷ xs) zero x h = refl
get_here (y ∷ xs) (suc i) x h = get_here xs i x (omega (arith, h))

get_there : {X : Type 0} (xs : List X) (i : ℕ) (x : X) (k : ℕ) → k ≢ i
    → slice_get (slice_set xs i x) k ≡ slice_get xs k
get_there [] i x k ne = refl
get_there (y ∷ xs) zero x zero ne = absurd (ne refl)
get_there (y ∷ xs) zero x (suc k) ne = refl
get_there (y ∷ xs) (suc i) x zero ne = refl
get_there (y ∷ xs) (suc i) x (suc k) ne = get_there xs i x k (λ e. ne (ap suc e))

-- one seat more is back in its place
pub back_more : {S : Type 0} (client : S → Client) (clients : ℕ) (seats placed was : List S) (seat : S) (rest : List S)
    (places : List (Option S)) → AreAllInOrder client clients seats → seats ≡ placed ++ was → was ≡ seat ∷ rest
    → length places ≡ clients → AreBack placed places
    → AreBack (placed ++ seat ∷ []) (slice_set places (client seat).0 (Some seat))
back_more {S} client clients seats placed was seat rest places order parts next all back =
    let number : (client seat).0 ≡ length placed =
    number_of_next client clients seats placed was seat rest order parts next in
    let is : seats ≡ placed ++ (seat ∷ rest) = parts ∙ ap (λ (l : List S). placed ++ l) next in
    let at : slice_get seats (length placed) ≡ Some seat =
    ap (λ (l : List S). slice_get l (length placed)) is ∙ get_middle placed seat rest in
    let within : length placed < length seats = slice_get_within seats (length placed) seat at in
    let here : (client seat).0 < length places = omega (arith, number, within, order.all, all) in
    record {
      each = λ k s there. ⊎_elim
          (λ old. get_there places (client seat).0 (Some seat) k
          (omega (arith, number, slice_get_within placed k s old)) ∙ back.each k s old)
          (λ new. subst
          (λ (x : S). slice_get (slice_set places (client seat).0 (Some seat)) k ≡ Some (Some x)) new.1
          (ap (λ (m : ℕ). slice_get (slice_set places (client seat).0 (Some seat)) m) (new.0 ∙ sym number)
          ∙ get_here places (client seat).0 (Some seat) here))
          (get_push_cases placed seat k s there);
    }
