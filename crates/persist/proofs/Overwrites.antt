-- Words that others are written over, one after the other.
use Rattle.std.proofs.Common.{◌≡◌, ◌<◌, ℕ, zero, suc, ◌+◌, List, [], ◌∷◌, ◌++◌, length, slice_index, slice_set, take, drop, refl, sym, ap, ◌∙◌, arith}
use Rattle.std.proofs.lemmas.List.{take_all}

-- the first so many of the words stand there
abbrev pub partly : ℕ → ℕ → List ℕ → List ℕ → List ℕ
partly from n words old = take from old ++ (take n words ++ drop (from + n) old)

pub partly_none : (from : ℕ) (words old : List ℕ) → partly from 0 words old ≡ old
partly_none zero words old = refl
partly_none (suc f) words [] =
    let e : suc f + 0 ≡ suc (f + 0) = omega arith in
    let none : List ℕ = [] in
    ap (λ (n : ℕ). take (suc f) none ++ (take 0 words ++ drop n none)) e
partly_none (suc f) words (x ∷ xs) =
    let e : suc f + 0 ≡ suc (f + 0) = omega arith in
    ap (λ (n : ℕ). take (suc f) (x ∷ xs) ++ (take 0 words ++ drop n (x ∷ xs))) e
    ∙ ap (λ (l : List ℕ). x ∷ l) (partly_none f words xs)

front_set : (n : ℕ) (words old : List ℕ) → n < length words → n < length old
    → slice_set (take n words ++ drop n old) n (slice_index words n) ≡ take (suc n) words ++ drop (suc n) old
front_set n [] old h lt = absurd (omega (arith, h))
front_set n (w ∷ ws) [] h lt = absurd (omega (arith, lt))
front_set zero (w ∷ ws) (x ∷ xs) h lt = refl
front_set (suc n) (w ∷ ws) (x ∷ xs) h lt = ap (λ (l : List ℕ). w ∷ l) (front_set n ws xs (omega (arith, h)) (omega (arith, lt)))

next_set : (from n : ℕ) (words old : List ℕ) → n < length words → from + n < length old
    → slice_set (partly from n words old) (from + n) (slice_index words n) ≡ partly from (suc n) words old
next_set zero n words old h lt =
    let e : 0 + n ≡ n = omega arith in
    let f : 0 + suc n ≡ suc n = omega arith in
    ap (λ (k : ℕ). slice_set (take n words ++ drop k old) k (slice_index words n)) e
    ∙ front_set n words old h (omega (arith, lt))
    ∙ ap (λ (k : ℕ). take (suc n) words ++ drop k old) (sym f)
next_set (suc f) n words [] h lt = absurd (omega (arith, lt))
next_set (suc f) n words (x ∷ xs) h lt =
    let e : suc f + n ≡ suc (f + n) = omega arith in
    let g : suc f + suc n ≡ suc (f + suc n) = omega arith in
    ap (λ (k : ℕ). slice_set (take (suc f) (x ∷ xs) ++ (take n words ++ drop k (x ∷ xs))) k (slice_index words n)) e
    ∙ ap (λ (l : List ℕ). x ∷ l) (next_set f n words xs h (omega (arith, lt)))
    ∙ ap (λ (k : ℕ). take (suc f) (x ∷ xs) ++ (take (suc n) words ++ drop k (x ∷ xs))) (sym g)

-- one more of them
pub partly_more : (from n : ℕ) (words old : List ℕ) → n < length words → from + n < length old
    → slice_set (partly from n words old) (from + n) (slice_index words n) ≡ partly from (n + 1) words old
partly_more from n words old h lt =
    let e : suc n ≡ n + 1 = omega arith in
    next_set from n words old h lt ∙ ap (λ (k : ℕ). partly from k words old) e

-- all of them
pub partly_all : (from n : ℕ) (words old : List ℕ) → n ≡ length words
    → partly from n words old ≡ take from old ++ (words ++ drop (from + length words) old)
partly_all from n words old all =
    ap (λ (k : ℕ). partly from k words old) all
    ∙ ap (λ (l : List ℕ). take from old ++ (l ++ drop (from + length words) old)) (take_all (length words) words (omega arith))
