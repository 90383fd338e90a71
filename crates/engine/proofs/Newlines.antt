-- Bytes with no newline, and the first newline.
use Rattle.std.proofs.Common.{◌≡◌, ◌≢◌, ℕ, zero, suc, ◌+◌, ◌<◌, ◌≤◌, List, [], ◌∷◌, ◌++◌, length, take, drop, get_or, Option, Some, None, sym, ap, subst, ◌∙◌, arith, eq-eqb}
use Rattle.std.proofs.lemmas.Bool.{eqb-true}
use Rattle.std.proofs.lemmas.List.{take_all, take-append-drop, drop_more}
use Rattle.memchr.specs.Find.{IsFirstByte, is_byte}
use Rattle.engine.specs.Lines.{HasNoNewline, IsFirstNewline}

-- no byte below this place is a newline
below : (bytes : List ℕ) (n : ℕ) → n ≤ length bytes → ((k : ℕ) → k < n → get_or bytes k 0 ≢ 10) → HasNoNewline (take n bytes)
below bytes zero le none = tt
below [] (suc n) le none = tt
below (b ∷ bs) (suc n) le none =
    (none 0 (omega arith), below bs n (omega arith) (λ k lt. none (suc k) (omega arith)))

-- what a search answers
pub first_newline : (bytes : List ℕ) (r : Option ℕ) → IsFirstByte (is_byte 10) bytes r → IsFirstNewline bytes r
first_newline bytes None none =
    let all = take_all (length bytes) bytes (omega arith) in
    subst HasNoNewline all (below bytes (length bytes) (omega arith) (λ k lt e. none k (omega arith) lt (eq-eqb _ _ e)))
first_newline bytes (Some n) first =
    let before = first.0.before in
    let within : n < length bytes = first.0.high in
    let no_newline = below bytes n (omega arith) (λ k lt e. before k (omega arith) lt (eq-eqb _ _ e)) in
    let here : get_or bytes n 0 ≡ 10 = eqb-true (get_or bytes n 0) 10 first.1 in
    let parts =
    sym (take-append-drop n bytes)
    ∙ ap (λ (xs : List ℕ). take n bytes ++ xs) (drop_more bytes n 0 within ∙ ap (λ (b : ℕ). b ∷ drop (n + 1) bytes) here) in
    (within, no_newline, parts)

pub HasNoNewline-append : (xs ys : List ℕ) → HasNoNewline xs → HasNoNewline ys → HasNoNewline (xs ++ ys)
HasNoNewline-append [] ys p q = q
HasNoNewline-append (x ∷ xs) ys p q = (p.0, HasNoNewline-append xs ys p.1 q)

pub HasNoNewline-back : (xs ys : List ℕ) → HasNoNewline (xs ++ ys) → HasNoNewline ys
HasNoNewline-back [] ys p = p
HasNoNewline-back (x ∷ xs) ys p = HasNoNewline-back xs ys p.1

pub HasNoNewline-take : (n : ℕ) (xs : List ℕ) → HasNoNewline xs → HasNoNewline (take n xs)
HasNoNewline-take zero xs p = tt
HasNoNewline-take (suc n) [] p = tt
HasNoNewline-take (suc n) (x ∷ xs) p = (p.0, HasNoNewline-take n xs p.1)
