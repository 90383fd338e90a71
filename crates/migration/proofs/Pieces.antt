-- Pieces of one length in a row.
use Rattle.std.proofs.Common.{◌≡◌, ℕ, zero, suc, ◌+◌, ◌*◌, ◌<◌, List, [], ◌∷◌, ◌++◌, length, take, drop, get_or, ◌∙◌, ap, arith}
use Rattle.std.specs.List.{flat_map}
use Rattle.std.proofs.Math.Seq.{drop-append-add}
use Rattle.std.proofs.lemmas.List.{take_at, length-append}
use Rattle.std.proofs.lemmas.List.Concat.{flat_map-cons}

module _ (f : ℕ → List ℕ) (size : ℕ) (each : (x : ℕ) → length (f x) ≡ size) where
  pub pieces_length : (xs : List ℕ) → length (flat_map f xs) ≡ length xs * size
  pieces_length [] = omega arith
  pieces_length (x ∷ xs) =
      let whole : length (f x ++ flat_map f xs) ≡ length (f x) + length (flat_map f xs) = length-append (f x) (flat_map f xs) in
      ap length (flat_map-cons f x xs) ∙ omega (arith, whole, each x, pieces_length xs)

  -- each of them is found where it begins
  pub piece : (xs : List ℕ) (i : ℕ) → i < length xs → take size (drop (i * size) (flat_map f xs)) ≡ f (get_or xs i 0)
  piece [] i below = absurd (omega (arith, below))
  piece (x ∷ xs) zero below =
      let start : 0 * size ≡ 0 = omega arith in
      ap (λ (ys : List ℕ). take size (drop (0 * size) ys)) (flat_map-cons f x xs)
      ∙ ap (λ (n : ℕ). take size (drop n (f x ++ flat_map f xs))) start
      ∙ take_at (f x) (flat_map f xs) size (each x)
  piece (x ∷ xs) (suc i) below =
      let from : suc i * size ≡ length (f x) + i * size = grind (arith, each x) in
      ap (λ (ys : List ℕ). take size (drop (suc i * size) ys)) (flat_map-cons f x xs)
      ∙ ap (λ (n : ℕ). take size (drop n (f x ++ flat_map f xs))) from
      ∙ ap (λ (ys : List ℕ). take size ys) (drop-append-add (f x) (flat_map f xs) (i * size))
      ∙ piece xs i (omega (arith, below))
