-- Seats that are taken from the front in turn, each of which goes behind the others with an empty list.
use Rattle.std.proofs.Common.{◌≡◌, ℕ, zero, suc, ◌+◌, ◌<◌, List, [], ◌∷◌, ◌++◌, length, set, Some}
use Rattle.std.proofs.Common.{slice_get, get_or, drop, refl, sym, ap, ◌∙◌, ⊎_elim, arith, length-append}
use Rattle.std.proofs.lemmas.Option.{same_Some, slice_get_within}
use mathlib.Core.Logic.{dite}
use native.Mathlib.Decide.{ℕ_discrete}
use Rattle.words.specs.declared.call.Client.{Client}
use Rattle.events.proofs.Facts.{get_push_cases}
use Rattle.roll.proofs.Facts.{get_set_else}
use Rattle.workers.proofs.seats.GivenSeats.{client_of}
use Rattle.workers.specs.Seats.{AreAllInOrder, AreEmpty}
use Rattle.workers.specs.declared.entry.Entry.{Entry}

-- the first seats, so many as this, are behind the others, with empty lists
pub record AreTurned {S : Type 0} (client : S → Client) (list : S → List Entry) (clients n : ℕ) (seats : List S)
    : Type 0 where
  pub all : length seats ≡ clients
  pub rest : (k : ℕ) (seat : S) → slice_get seats k ≡ Some seat → k + n < clients → client seat ≡ record { 0 = n + k }
  pub done : (k j : ℕ) (seat : S) → slice_get seats k ≡ Some seat → k + n ≡ clients + j
      → (client seat ≡ record { 0 = j }) × (list seat ≡ [])

-- the rows below this one are empty
pub record AreEmptyBelow (n : ℕ) (rows : List (List Entry)) : Type 0 where
  pub each : (t : ℕ) (row : List Entry) → t < n → slice_get rows t ≡ Some row → row ≡ []

-- an item that is written as it was
pub set_as_was : {A : Type 0} (xs : List A) (k : ℕ) (x : A) → slice_get xs k ≡ Some x → set xs k x ≡ xs
set_as_was [] k x at = refl
set_as_was (y ∷ ys) zero x at = ap (λ z. z ∷ ys) (sym (same_Some y x at))
set_as_was (y ∷ ys) (suc k) x at = ap (λ zs. y ∷ zs) (set_as_was ys k x at)

-- the item that was written is what is read
get_set_same : {A : Type 0} (xs : List A) (k : ℕ) (x y : A) → slice_get (set xs k x) k ≡ Some y → y ≡ x
get_set_same [] k x y at = absurd cc
get_set_same (z ∷ zs) zero x y at = sym (same_Some x y at)
get_set_same (z ∷ zs) (suc k) x y at = get_set_same zs k x y at

-- one row more is emptied
pub empty_below_more : (n : ℕ) (rows : List (List Entry)) → AreEmptyBelow n rows → AreEmptyBelow (n + 1) (set rows n [])
empty_below_more n rows below = record {
  each = λ t row less at. dite (ℕ_discrete t n)
      (λ same. get_set_same rows n [] row (ap (λ (k : ℕ). slice_get (set rows n []) k) (sym same) ∙ at))
      (λ other. below.each t row (omega (arith, less, other)) (sym (get_set_else rows t n [] other) ∙ at));
}

pub empty_from_below : (n : ℕ) (rows : List (List Entry)) → length rows ≡ n → AreEmptyBelow n rows
    → AreEmpty (λ row. row) rows
empty_from_below n rows all below = record {
  each = λ t row at. below.each t row (omega (arith, slice_get_within rows t row at, all)) at;
}

-- what a list is, whose first item was taken
pub front_taken : {S : Type 0} (was : List S) (taken : S) → 0 < length was → taken ≡ get_or was 0 taken
    → was ≡ taken ∷ drop 1 was
front_taken [] taken some is = absurd (omega (arith, some))
front_taken (x ∷ xs) taken some is = ap (λ z. z ∷ xs) (sym is)

-- the seat that is taken is the next client's
pub turned_first : {S : Type 0} (client : S → Client) (list : S → List Entry) (clients n : ℕ) (seat : S) (rest : List S)
    → n < clients → AreTurned client list clients n (seat ∷ rest) → client seat ≡ record { 0 = n }
turned_first client list clients n seat rest less turned =
    turned.rest 0 seat refl (omega (arith, less))
    ∙ ap client_of (omega arith)

pub turned_more : {S : Type 0} (client : S → Client) (list : S → List Entry) (clients n : ℕ) (seat emptied : S)
    (rest : List S) → n < clients → AreTurned client list clients n (seat ∷ rest) → client emptied ≡ client seat
    → list emptied ≡ [] → AreTurned client list clients (n + 1) (rest ++ emptied ∷ [])
turned_more {S} client list clients n seat emptied rest less turned same empty = record {
  all = let p = length-append rest (emptied ∷ []) in let q = turned.all in omega (arith, p, q);
  rest = λ k x at below. ⊎_elim
      (λ old. turned.rest (suc k) x old (omega (arith, below))
      ∙ ap client_of (omega arith))
      (λ new. absurd (omega (arith, turned.all, new.0, below)))
      (get_push_cases rest emptied k x at);
  done = λ k j x at is. ⊎_elim
      (λ old. turned.done (suc k) j x old (omega (arith, is)))
      (λ new. (
        ap client (sym new.1) ∙ (same ∙ (turned_first client list clients n seat rest less turned
            ∙ ap client_of (next k j new.0 is))),
        ap list (sym new.1) ∙ empty,
      ))
      (get_push_cases rest emptied k x at);
}
  where
    next : (k j : ℕ) → k ≡ length rest → k + (n + 1) ≡ clients + j → n ≡ j
    next k j last is = omega (arith, turned.all, last, is)

-- when all are turned they stand in their order again, with empty lists
pub turned_order : {S : Type 0} (client : S → Client) (list : S → List Entry) (clients : ℕ) (seats : List S)
    → AreTurned client list clients clients seats → AreAllInOrder client clients seats
turned_order client list clients seats turned = record {
  all = turned.all;
  each = λ k seat at. (turned.done k k seat at (omega arith)).0;
}

pub turned_empty : {S : Type 0} (client : S → Client) (list : S → List Entry) (clients : ℕ) (seats : List S)
    → AreTurned client list clients clients seats → AreEmpty list seats
turned_empty client list clients seats turned = record {
  each = λ k seat at. (turned.done k k seat at (omega arith)).1;
}
