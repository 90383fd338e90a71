-- Places of a list that grows at its end, and pairs of its items.
use Rattle.std.proofs.Common.{ℕ, zero, suc, ◌≡◌, ◌<◌, ◌⊎◌, List, [], ◌∷◌, ◌++◌, map, Some, slice_get, length, inl, inr}
use Rattle.std.proofs.Common.{refl, ap, arith, ⊎_elim}
use Rattle.std.specs.Prelude.{All, AllPairs}
use Rattle.std.proofs.lemmas.Option.{same_Some}
use Rattle.std.proofs.lemmas.List.Elements.{All-map}
use Rattle.std.proofs.lemmas.List.Kept.{AllPairs-cons}
use Rattle.std.proofs.lemmas.List.Quantifiers.{all_pairs_push}

-- what stood at a place stands there still
pub get_longer : {X : Type 0} (xs ys : List X) (p : ℕ) (x : X) → slice_get xs p ≡ Some x
    → slice_get (xs ++ ys) p ≡ Some x
get_longer [] ys p x e = cc
get_longer (y ∷ xs) ys zero x e = e
get_longer (y ∷ xs) ys (suc p) x e = get_longer xs ys p x e

-- what stands at an old place stood there
pub get_before : {X : Type 0} (xs ys : List X) (p : ℕ) (x : X) → p < length xs
    → slice_get (xs ++ ys) p ≡ Some x → slice_get xs p ≡ Some x
get_before [] ys p x lt e = absurd (omega arith)
get_before (y ∷ xs) ys zero x lt e = e
get_before (y ∷ xs) ys (suc p) x lt e = get_before xs ys p x (omega arith) e

-- after a push a place is an old one, or the last
pub get_push_cases : {X : Type 0} (xs : List X) (y : X) (p : ℕ) (x : X) → slice_get (xs ++ y ∷ []) p ≡ Some x
    → (slice_get xs p ≡ Some x) ⊎ ((p ≡ length xs) × (y ≡ x))
get_push_cases [] y zero x e = inr (refl, same_Some y x e)
get_push_cases [] y (suc p) x e = cc
get_push_cases (z ∷ xs) y zero x e = inl e
get_push_cases (z ∷ xs) y (suc p) x e = ⊎_elim (λ old. inl old) (λ new. inr (ap suc new.0, new.1))
    (get_push_cases xs y p x e)

-- the last place after a push
pub get_last : {X : Type 0} (xs : List X) (y : X) → slice_get (xs ++ y ∷ []) (length xs) ≡ Some y
get_last [] y = refl
get_last (x ∷ xs) y = get_last xs y

-- the first item and each later one
pub pairs_head : {X : Type 0} (R : X → X → Type 0) (x : X) (xs : List X) → AllPairs R (x ∷ xs) → All (R x) xs
pairs_head R x xs pairs k d lt = pairs 0 (suc k) d (omega arith) (omega arith)

-- the pairs of the later ones
pub pairs_tail : {X : Type 0} (R : X → X → Type 0) (x : X) (xs : List X) → AllPairs R (x ∷ xs) → AllPairs R xs
pairs_tail R x xs pairs i j d lt within = pairs (suc i) (suc j) d (omega arith) (omega arith)

-- pairs of the items of a map
pub pairs_map : {X Y : Type 0} (R : Y → Y → Type 0) (f : X → Y) (xs : List X)
    → AllPairs (λ x y. R (f x) (f y)) xs → AllPairs R (map f xs)
pairs_map R f [] pairs = λ i j d lt within. absurd (omega (arith, within))
pairs_map R f (x ∷ xs) pairs =
    AllPairs-cons R (f x) (map f xs) (All-map (R (f x)) f xs (pairs_head (λ x y. R (f x) (f y)) x xs pairs))
    (pairs_map R f xs (pairs_tail (λ x y. R (f x) (f y)) x xs pairs))

-- pairs after a push
pub pairs_push : {X : Type 0} (R : X → X → Type 0) (xs : List X) (y : X) → AllPairs R xs → All (λ x. R x y) xs
    → AllPairs R (xs ++ y ∷ [])
pairs_push R xs y pairs each = all_pairs_push R xs y pairs (λ k d lt. each k d lt)

-- pairs that imply other pairs, where something is known of each item
pub pairs_weaker : {X : Type 0} (P : X → Type 0) (R S : X → X → Type 0) (xs : List X)
    → ((x y : X) → P x → P y → R x y → S x y) → All P xs → AllPairs R xs → AllPairs S xs
pairs_weaker P R S xs step each pairs i j d lt within =
    step _ _ (each i d (omega arith)) (each j d within) (pairs i j d lt within)
