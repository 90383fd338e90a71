-- Items of a list, and parts of it.
use Rattle.std.proofs.Common.{ℕ, zero, suc, ◌≡◌, ◌<◌, ◌⊎◌, List, [], ◌∷◌, ◌++◌, Some, slice_get, get_or, length, inl}
use Rattle.std.proofs.Common.{inr, refl, ap, arith, sym, ◌∙◌, ⊎_elim}
use Rattle.std.specs.Prelude.{AllPairs, Contains}
use Rattle.std.proofs.lemmas.Bool.{cases_lt}
use Rattle.std.proofs.lemmas.List.{get_or_default}
use Rattle.std.proofs.lemmas.Option.{slice_get_within, get_or_from_slice_get}
use Rattle.events.specs.Parts.{IsPartOf, nothing, both, more}
use Rattle.words.specs.declared.call.Reply.{Reply}
use Rattle.events.specs.declared.event.Entry.{Entry}
use Rattle.events.specs.Orders.{IsTakenAs, InOrder}

-- it is an item of the list, by recursion on the list
abbrev pub IsIn : {X : Type 0} → X → List X → Type 0
IsIn x [] = ⊥
IsIn x (y ∷ ys) = (y ≡ x) ⊎ IsIn x ys

-- between the two ways to say so
pub in_from_place : {X : Type 0} (xs : List X) (x : X) (k : ℕ) → k < length xs → get_or xs k x ≡ x → IsIn x xs
in_from_place [] x k lt is = absurd (omega (arith, lt))
in_from_place (y ∷ xs) x zero lt is = inl is
in_from_place (y ∷ xs) x (suc k) lt is = inr (in_from_place xs x k (omega (arith, lt)) is)

pub in_from_contains : {X : Type 0} (xs : List X) (x : X) → Contains xs x → IsIn x xs
in_from_contains xs x contains = in_from_place xs x contains.0 contains.1 contains.2

pub contains_from_in : {X : Type 0} (xs : List X) (x : X) → IsIn x xs → Contains xs x
contains_from_in [] x is = absurd is
contains_from_in (y ∷ xs) x is =
    ⊎_elim
    (λ first. (0, omega arith, first))
    (λ later. let at : Contains xs x = contains_from_in xs x later in (suc at.0, omega (arith, at.1), at.2))
    is

-- a call in the order is there with some reply
pub taken_from_in_order : (order : List Entry) (p : ℕ) → InOrder order p → (reply : Reply) × IsTakenAs order p reply
taken_from_in_order order p (k, x, lt, is, place) =
    let same : x ≡ record { place = p; reply = x.reply } =
    ap (λ (n : ℕ). let e : Entry = record { place = n; reply = x.reply } in e) place in
    (x.reply, (k, lt, get_or_default order k _ x lt ∙ is ∙ same))

pub in_order_from_taken : (order : List Entry) (p : ℕ) (reply : Reply) → IsTakenAs order p reply → InOrder order p
in_order_from_taken order p reply (k, lt, is) = (k, record { place = p; reply = reply }, lt, is, refl)

-- a list is a part of itself, and of itself with more at its end
pub part_same : {X : Type 0} (xs : List X) → IsPartOf xs xs
part_same [] = nothing
part_same (x ∷ xs) = both x (part_same xs)

pub part_longer : {X : Type 0} (xs ys : List X) → IsPartOf xs (xs ++ ys)
part_longer [] [] = nothing
part_longer [] (y ∷ ys) = more y (part_longer [] ys)
part_longer (x ∷ xs) ys = both x (part_longer xs ys)

-- a part of a part is a part
pub part_of_part : {X : Type 0} {xs ys zs : List X} → IsPartOf ys zs → IsPartOf xs ys → IsPartOf xs zs
part_of_part nothing part = part
part_of_part (more z rest) part = more z (part_of_part rest part)
part_of_part (both y rest) (both x part) = both x (part_of_part rest part)
part_of_part (both y rest) (more x part) = more x (part_of_part rest part)

-- the items of a part are items
pub in_part : {X : Type 0} {xs ys : List X} (x : X) → IsPartOf xs ys → IsIn x xs → IsIn x ys
in_part x nothing is = is
in_part x (both y rest) is = ⊎_elim (λ first. inl first) (λ later. inr (in_part x rest later)) is
in_part x (more y rest) is = inr (in_part x rest is)

-- of items that differ in a number, two with the same number are the same
pub same_by_number : {X : Type 0} (number : X → ℕ) (xs : List X)
    → AllPairs (λ x y. number x ≡ number y → ⊥) xs → (x y : X) → Contains xs x → Contains xs y
    → number x ≡ number y → x ≡ y
same_by_number number xs pairs x y (k, k_lt, k_is) (j, j_lt, j_is) same =
    let at_j : get_or xs j x ≡ y = get_or_default xs j x y j_lt ∙ j_is in
    ⊎_elim
    (λ lt. absurd (pairs k j x lt j_lt (ap number k_is ∙ same ∙ sym (ap number at_j))))
    (λ le. ⊎_elim
    (λ lt. absurd (pairs j k x lt k_lt (ap number at_j ∙ sym same ∙ sym (ap number k_is))))
    (λ other. let one : k ≡ j = omega arith in sym k_is ∙ ap (λ (n : ℕ). get_or xs n x) one ∙ at_j)
    (cases_lt j k))
    (cases_lt k j)

-- the call of an entry is in the order with its reply
pub taken_at : (order : List Entry) (k p : ℕ) (reply : Reply) (x : Entry) → slice_get order k ≡ Some x
    → x.place ≡ p → x.reply ≡ reply → IsTakenAs order p reply
taken_at order k p reply x at place same =
    let is : x ≡ record { place = p; reply = reply } =
    ap (λ (n : ℕ). let e : Entry = record { place = n; reply = x.reply } in e) place
    ∙ ap (λ (r : Reply). let e : Entry = record { place = p; reply = r } in e) same in
    (k, slice_get_within order k x at, get_or_from_slice_get order k _ _ (at ∙ ap Some is))
