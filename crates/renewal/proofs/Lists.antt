-- Numbers of which none stands twice: a range, a part of one, and what they are mapped to.
use Rattle.std.proofs.Common.{◌≡◌, ℕ, zero, suc, ◌+◌, ◌≤◌, ◌<◌, ◌⊎◌, inl, inr, Bool, true, false, List, [], ◌∷◌, ◌++◌, map, filter, length, if◌then◌else◌, add-one, add-zero, zero-add, refl, sym, ◌∙◌, ap, subst, arith}
use Rattle.std.specs.List.{range_with_len}
use Rattle.std.proofs.lemmas.Bool.{cases_Bool, cases_eq}
use Rattle.arena.specs.Chain.{IsAmong}
use Rattle.std.proofs.lemmas.List.{map-append}
use Rattle.std.proofs.lemmas.List.Elements.{filter-append}
use Rattle.arena.proofs.Facts.{Distinct, in_left}

pub in_parts : (x : ℕ) (xs ys : List ℕ) → IsAmong x (xs ++ ys) → IsAmong x xs ⊎ IsAmong x ys
in_parts x [] ys h = inr h
in_parts x (y ∷ xs) ys (inl e) = inl (inl e)
in_parts x (y ∷ xs) ys (inr h) = elim (in_parts x xs ys h) [ inl a ↦ inl (inr a) | inr b ↦ inr b ]

-- a range
pub in_range : (x from n : ℕ) → IsAmong x (range_with_len from n) → (from ≤ x) × (x < from + n)
in_range x from zero h = absurd h
in_range x from (suc n) (inl e) = (omega (arith, e), omega (arith, e))
in_range x from (suc n) (inr h) =
    let rest : (from + 1 ≤ x) × (x < from + 1 + n) = in_range x (from + 1) n h in
    (omega (arith, rest.0), omega (arith, rest.1))

pub range_has : (x from n : ℕ) → from ≤ x → x < from + n → IsAmong x (range_with_len from n)
range_has x from zero low high = absurd (omega arith)
range_has x from (suc n) low high = elim (cases_eq x from) [
  | inl e ↦ inl e
  | inr ne ↦ inr (range_has x (from + 1) n (omega arith) (omega arith))
]

pub range_distinct : (from n : ℕ) → Distinct (range_with_len from n)
range_distinct from zero = tt
range_distinct from (suc n) =
    (λ again. let up : (from + 1 ≤ from) × (from < from + 1 + n) = in_range from (from + 1) n again in omega (arith, up.0), range_distinct (from + 1) n)

-- a part of a list
module _ (p : ℕ → Bool) where
  kept : (x : ℕ) (xs : List ℕ) → p x ≡ true → filter p (x ∷ xs) ≡ x ∷ filter p xs
  kept x xs e = rw e refl

  left : (x : ℕ) (xs : List ℕ) → p x ≡ false → filter p (x ∷ xs) ≡ filter p xs
  left x xs e = rw e refl

  pub in_filter : (x : ℕ) (xs : List ℕ) → IsAmong x (filter p xs) → IsAmong x xs × (p x ≡ true)
  in_filter x [] h = absurd h
  in_filter x (y ∷ ys) h = elim (cases_Bool (p y)) [
    | inl e ↦ elim (subst (IsAmong x) (kept y ys e) h) [
      | inl same ↦ (inl same, ap p same ∙ e)
      | inr more ↦ let rest : IsAmong x ys × (p x ≡ true) = in_filter x ys more in (inr rest.0, rest.1)
    ]
    | inr e ↦
        let rest : IsAmong x ys × (p x ≡ true) = in_filter x ys (subst (IsAmong x) (left y ys e) h) in (inr rest.0, rest.1)
  ]

  pub filter_has : (x : ℕ) (xs : List ℕ) → IsAmong x xs → p x ≡ true → IsAmong x (filter p xs)
  filter_has x [] h holds = absurd h
  filter_has x (y ∷ ys) (inl e) holds = subst (IsAmong x) (sym (kept y ys (ap p (sym e) ∙ holds))) (inl e)
  filter_has x (y ∷ ys) (inr h) holds = elim (cases_Bool (p y)) [
    | inl e ↦ subst (IsAmong x) (sym (kept y ys e)) (inr (filter_has x ys h holds))
    | inr e ↦ subst (IsAmong x) (sym (left y ys e)) (filter_has x ys h holds)
  ]

  filter_distinct : (xs : List ℕ) → Distinct xs → Distinct (filter p xs)
  filter_distinct [] d = tt
  filter_distinct (x ∷ xs) d =
      let rest : Distinct (filter p xs) = filter_distinct xs d.1 in
      elim (cases_Bool (p x)) [
        | inl e ↦ subst Distinct (sym (kept x xs e)) (λ again. d.0 (in_filter x xs again).0, rest)
        | inr e ↦ subst Distinct (sym (left x xs e)) rest
      ]

  pub filter_short : (xs : List ℕ) → length (filter p xs) ≤ length xs
  filter_short [] = omega arith
  filter_short (x ∷ xs) =
      let rest : length (filter p xs) ≤ length xs = filter_short xs in
      elim (cases_Bool (p x)) [
        | inl e ↦ let all : length (filter p (x ∷ xs)) ≡ length (x ∷ filter p xs) = ap length (kept x xs e) in omega (arith, all, rest)
        | inr e ↦ let all : length (filter p (x ∷ xs)) ≡ length (filter p xs) = ap length (left x xs e) in omega (arith, all, rest)
      ]

  pub part_distinct : (from n : ℕ) → Distinct (filter p (range_with_len from n))
  part_distinct from n = filter_distinct (range_with_len from n) (range_distinct from n)

-- what they are mapped to
module _ (f : ℕ → ℕ) where
  pub in_map : (x : ℕ) (xs : List ℕ) → IsAmong x (map f xs) → (y : ℕ) × IsAmong y xs × (x ≡ f y)
  in_map x [] h = absurd h
  in_map x (y ∷ ys) (inl e) = (y, inl refl, e)
  in_map x (y ∷ ys) (inr h) = let rest : (z : ℕ) × IsAmong z ys × (x ≡ f z) = in_map x ys h in (rest.0, inr rest.1, rest.2)

  pub map_has : (x : ℕ) (xs : List ℕ) → IsAmong x xs → IsAmong (f x) (map f xs)
  map_has x [] h = absurd h
  map_has x (y ∷ ys) (inl e) = inl (ap f e)
  map_has x (y ∷ ys) (inr h) = inr (map_has x ys h)

  pub map_distinct : (xs : List ℕ) → ((x y : ℕ) → IsAmong x xs → IsAmong y xs → f x ≡ f y → x ≡ y) → Distinct xs → Distinct (map f xs)
  map_distinct [] own d = tt
  map_distinct (x ∷ xs) own d = (λ again. twice (in_map (f x) xs again), map_distinct xs (λ y z i j. own y z (inr i) (inr j)) d.1)
    where
      twice : (y : ℕ) × IsAmong y xs × (f x ≡ f y) → ⊥
      twice q = d.0 (subst (λ (z : ℕ). IsAmong z xs) (sym (own x q.0 (inl refl) (inr q.1) q.2)) q.1)

pub parts_distinct : (xs ys : List ℕ) → Distinct xs → Distinct ys → ((x : ℕ) → IsAmong x xs → IsAmong x ys → ⊥) → Distinct (xs ++ ys)
parts_distinct [] ys d e apart = e
parts_distinct (x ∷ xs) ys d e apart =
    (λ again. elim (in_parts x xs ys again) [ inl a ↦ d.0 a | inr b ↦ apart x (inl refl) b ], parts_distinct xs ys d.1 e (λ y i j. apart y (inr i) j))

pub front_distinct : (xs ys : List ℕ) → Distinct (xs ++ ys) → Distinct xs
front_distinct [] ys d = tt
front_distinct (x ∷ xs) ys d = (λ again. d.0 (in_left x xs ys again), front_distinct xs ys d.1)

-- a range with one more
pub range_more : (from n : ℕ) → range_with_len from (n + 1) ≡ range_with_len from n ++ (from + n) ∷ []
range_more from n = ap (range_with_len from) (add-one n) ∙ one_more from n
  where
    one_more : (from n : ℕ) → range_with_len from (suc n) ≡ range_with_len from n ++ (from + n) ∷ []
    one_more from zero = ap (λ (x : ℕ). x ∷ []) (sym (add-zero from))
    one_more from (suc n) =
        let next : from + 1 + n ≡ from + suc n = omega arith in
        ap (λ (xs : List ℕ). from ∷ xs) (one_more (from + 1) n ∙ ap (λ (x : ℕ). range_with_len (from + 1) n ++ x ∷ []) next)

-- what is mapped of a part of a range, with one more
pub part_more : (f : ℕ → ℕ) (p : ℕ → Bool) (n : ℕ)
    → map f (filter p (range_with_len 0 (n + 1))) ≡ map f (filter p (range_with_len 0 n)) ++ (if p n then f n ∷ [] else [])
part_more f p n =
    let row : range_with_len 0 (n + 1) ≡ range_with_len 0 n ++ n ∷ [] = range_more 0 n ∙ ap (λ (x : ℕ). range_with_len 0 n ++ x ∷ []) (zero-add n) in
    ap (λ (xs : List ℕ). map f (filter p xs)) row ∙ ap (map f) (filter-append p (range_with_len 0 n) (n ∷ []))
    ∙ map-append f (filter p (range_with_len 0 n)) (filter p (n ∷ [])) ∙ ap (λ (xs : List ℕ). map f (filter p (range_with_len 0 n)) ++ xs) (of_test (p n) refl)
  where
    of_test : (b : Bool) → p n ≡ b → map f (filter p (n ∷ [])) ≡ (if p n then f n ∷ [] else [])
    of_test true e = rw e refl
    of_test false e = rw e refl
