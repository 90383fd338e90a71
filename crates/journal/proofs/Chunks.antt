-- Lists cut into chunks of one length.
use Rattle.std.proofs.Common.{◌≡◌, ℕ, zero, suc, ◌+◌, ◌*◌, List, [], ◌∷◌, ◌++◌, length, map, take, drop, arith, refl, ap, ◌∙◌}
use Rattle.std.specs.List.{flat_map}
use Rattle.std.specs.Simd.{first_chunks}
use Rattle.std.proofs.lemmas.List.{take_at, drop_at, take-take, drop-take, append_assoc}
use Rattle.std.proofs.lemmas.List.Concat.{flat_map-cons}

chunks_of_take : (k count : ℕ) (xs : List ℕ) → first_chunks k count (take (k * count) xs) ≡ first_chunks k count xs
chunks_of_take k zero xs = refl
chunks_of_take k (suc count) xs =
    let size : k * suc count ≡ k + k * count = omega arith in
    ap (λ (front : List ℕ). front ∷ first_chunks k count (drop k (take (k * suc count) xs))) (take-take k (k * suc count) xs (omega arith))
    ∙ ap (λ (back : List ℕ). take k xs ∷ first_chunks k count back) (ap (λ (n : ℕ). drop k (take n xs)) size ∙ drop-take k (k * count) xs)
    ∙ ap (λ (rest : List (List ℕ)). take k xs ∷ rest) (chunks_of_take k count (drop k xs))

-- chunks of a front that was split off
pub chunks_read : (k count n : ℕ) (front xs : List ℕ) → n ≡ count → front ≡ take (k * count) xs → first_chunks k n front ≡ first_chunks k count xs
chunks_read k count n front xs counted split =
    ap (λ (m : ℕ). first_chunks k m front) counted
    ∙ ap (first_chunks k count) split
    ∙ chunks_of_take k count xs

-- texts of one length each, one behind the other, are cut into these again, whatever follows
pub chunks_again : {X : Type 0} (k : ℕ) (f : X → List ℕ) (each : (x : X) → length (f x) ≡ k) (xs : List X) (rest : List ℕ) → first_chunks k (length xs) (flat_map f xs ++ rest) ≡ map f xs
chunks_again k f each [] rest = refl
chunks_again k f each (x ∷ xs) rest =
    let whole : flat_map f (x ∷ xs) ++ rest ≡ f x ++ (flat_map f xs ++ rest) = ap (λ (front : List ℕ). front ++ rest) (flat_map-cons f x xs) ∙ append_assoc (f x) (flat_map f xs) rest in
    ap (first_chunks k (suc (length xs))) whole
    ∙ ap (λ (front : List ℕ). front ∷ first_chunks k (length xs) (drop k (f x ++ (flat_map f xs ++ rest)))) (take_at (f x) (flat_map f xs ++ rest) k (each x))
    ∙ ap (λ (back : List ℕ). f x ∷ first_chunks k (length xs) back) (drop_at (f x) (flat_map f xs ++ rest) k (each x))
    ∙ ap (λ (others : List (List ℕ)). f x ∷ others) (chunks_again k f each xs rest)
