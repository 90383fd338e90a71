-- A row that is written as it was, and lists that have the same at each place.
use Rattle.std.proofs.Common.{◌≡◌, ◌<◌, ◌∙◌, ℕ, zero, suc, List, [], ◌∷◌, Some, arith, length, refl, slice_get, set, sym, ap}
use Rattle.std.proofs.lemmas.Option.{same_Some}

-- what stands at a place is written there again
pub set_same : {A : Type 0} (xs : List A) (k : ℕ) (x : A) → slice_get xs k ≡ Some x → set xs k x ≡ xs
set_same [] k x at = cc at
set_same (y ∷ ys) zero x at = ap (λ z. z ∷ ys) (sym (same_Some y x at))
set_same (y ∷ ys) (suc k) x at = ap (λ zs. y ∷ zs) (set_same ys k x at)

pub same_list : {A : Type 0} (xs ys : List A) → length xs ≡ length ys
    → ((k : ℕ) → k < length xs → slice_get xs k ≡ slice_get ys k) → xs ≡ ys
same_list [] [] long same = refl
same_list [] (y ∷ ys) long same = absurd (cc long)
same_list (x ∷ xs) [] long same = absurd (cc long)
same_list {A} (x ∷ xs) (y ∷ ys) long same =
    let first : x ≡ y = same_Some x y (same 0 (omega arith)) in
    let rest : xs ≡ ys = same_list xs ys (omega (arith, long)) (λ k below. same (suc k) (omega (arith, below))) in
    ap (λ (z : A). z ∷ xs) first ∙ ap (λ (zs : List A). y ∷ zs) rest
