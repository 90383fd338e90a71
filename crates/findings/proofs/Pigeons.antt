-- Different items that each have an item of a second list to themselves are no more than that list has.
use Rattle.std.proofs.Common.{ℕ, suc, ◌≡◌, ◌≢◌, ◌≤◌, ◌⊎◌, List, [], ◌∷◌, length, inl, inr, refl, arith, ap, sym, ◌∙◌}
use Rattle.std.proofs.Common.{⊎_elim, subst}
use Rattle.std.specs.Prelude.{All, AllPairs, Contains}
use Rattle.events.proofs.Facts.{IsIn, contains_from_in, pairs_head, pairs_tail}

-- a list without one of its items
pub record IsWithout (ys : List ℕ) (y : ℕ) : Type 0 where
  pub rest : List ℕ
  pub shorter : length ys ≡ suc (length rest)
  pub others : (z : ℕ) → IsIn z ys → (y ≡ z) ⊎ IsIn z rest

without : (ys : List ℕ) (y : ℕ) → IsIn y ys → IsWithout ys y
without [] y is = absurd is
without (x ∷ ys) y is = go is
    (λ (later : IsIn y ys). without ys y later)
  where
    go : (x ≡ y) ⊎ IsIn y ys → (IsIn y ys → IsWithout ys y) → IsWithout (x ∷ ys) y
    go is again = ⊎_elim
        (λ (first : x ≡ y). record {
          rest = ys;
          shorter = refl;
          others = λ z in_all. ⊎_elim (λ (here : x ≡ z). inl (sym first ∙ here))
              (λ (later : IsIn z ys). inr later) in_all;
        })
        (λ (later : IsIn y ys).
        let so : IsWithout ys y = again later in
        record {
          rest = x ∷ so.rest;
          shorter = ap suc so.shorter;
          others = λ z in_all. ⊎_elim (λ (here : x ≡ z). inr (inl here))
              (λ (there : IsIn z ys). ⊎_elim (λ (same : y ≡ z). inl same) (λ (rest : IsIn z so.rest). inr (inr rest))
              (so.others z there))
              in_all;
        })
        is

-- an item has one of the second list
pub record HasOne (R : ℕ → ℕ → Type 0) (ys : List ℕ) (x : ℕ) : Type 0 where
  pub one : ℕ
  pub contained : IsIn one ys
  pub related : R x one

differ : (x : ℕ) (xs : List ℕ) → All (λ z. x ≢ z) xs → (z : ℕ) → IsIn z xs → x ≢ z
differ x xs all z is same =
    let at : Contains xs z = contains_from_in xs z is in
    all at.0 z at.1 (same ∙ sym at.2)

pub no_more : (R : ℕ → ℕ → Type 0) (xs ys : List ℕ) → AllPairs (λ p q. p ≢ q) xs
    → ((x : ℕ) → IsIn x xs → HasOne R ys x) → ((x z y : ℕ) → R x y → R z y → x ≡ z) → length xs ≤ length ys
no_more R [] ys pairs each one = omega arith
no_more R (x ∷ xs) ys pairs each one =
    let mine : HasOne R ys x = each x (inl refl) in
    let so : IsWithout ys mine.one = without ys mine.one mine.contained in
    let others : All (λ z. x ≢ z) xs = pairs_head (λ p q. p ≢ q) x xs pairs in
    let fewer : length xs ≤ length so.rest =
    no_more R xs so.rest (pairs_tail (λ p q. p ≢ q) x xs pairs)
    (λ z is. let its : HasOne R ys z = each z (inr is) in
    ⊎_elim
    (λ (same : mine.one ≡ its.one). absurd (differ x xs others z is
    (one x z its.one (subst (R x) same mine.related) its.related)))
    (λ (rest : IsIn its.one so.rest). record { one = its.one; contained = rest; related = its.related })
    (so.others its.one its.contained))
    one in
    omega (arith, so.shorter, fewer)
