-- The list of differences, word by word.
use Rattle.std.proofs.Common.{◌≡◌, ◌≢◌, ◌==◌, ℕ, zero, suc, ◌+◌, ◌<◌, ◌≤◌, ◌⊎◌, inl, inr, List, [], ◌∷◌, length, get_or, slice_index, Option, Some, None, Bool, true, false, if◌then◌else◌, cond, refl, sym, ◌∙◌, subst, arith}
use Rattle.std.specs.Prelude.{filter, not}
use Rattle.std.specs.List.{enumerate_from}
use Rattle.std.proofs.lemmas.Bool.{cases_eq, cases_lt}
use Rattle.std.proofs.lemmas.Bool.Decides.{eqb_tells, nat_tests}
use Rattle.std.proofs.Math.ListN.{get_or-eq_default}
use Rattle.persist.specs.ChangeList.{Entries, get, word_at, IsAscending}
use Rattle.persist.specs.Changes.{differences}
use Rattle.persist.proofs.Entries.{get_absent}

-- the first list's value of a word, where the second has another
abbrev pub difference_at : List ℕ → List ℕ → ℕ → Option ℕ
difference_at xs ys word = if slice_index xs word == slice_index ys word then None else Some (slice_index xs word)

ascending_tail : (e : ℕ × ℕ) (es : Entries) → IsAscending (e ∷ es) → IsAscending es
ascending_tail e es up i j lt h = up (suc i) (suc j) (omega arith) (omega arith)

-- a word that is below all entries has none
get-below : (es : Entries) (w : ℕ) → ((i : ℕ) → i < length es → w < word_at es i) → get es w ≡ None
get-below es w above = get_absent es w (λ i h same. omega (arith, above i h))

get-here : (w v : ℕ) (es : Entries) → get ((w, v) ∷ es) w ≡ Some v
get-here w v es = grind (arith, nat_tests)

get-there : (w v q : ℕ) (es : Entries) → w ≢ q → get ((w, v) ∷ es) q ≡ get es q
get-there w v q es ne = grind (arith, nat_tests, ne)

-- ascending lists that have the same of each word are the same
pub same_entries : (xs ys : Entries) → IsAscending xs → IsAscending ys → ((w : ℕ) → get xs w ≡ get ys w) → xs ≡ ys
same_entries [] [] up_x up_y same = refl
same_entries [] ((w, v) ∷ ys) up_x up_y same = absurd (cc (same w, get-here w v ys))
same_entries ((w, v) ∷ xs) [] up_x up_y same = absurd (cc (same w, get-here w v xs))
same_entries ((w, v) ∷ xs) ((u, t) ∷ ys) up_x up_y same =
    go (λ tails. same_entries xs ys (ascending_tail (w, v) xs up_x) (ascending_tail (u, t) ys up_y) tails) (cases_lt w u) (cases_lt u w)
  where
    after_w : (i : ℕ) → i < length xs → w < word_at xs i
    after_w i h = up_x 0 (suc i) (omega arith) (omega arith)

    after_u : (i : ℕ) → i < length ys → u < word_at ys i
    after_u i h = up_y 0 (suc i) (omega arith) (omega arith)

    not_in_y : w < u → get ((u, t) ∷ ys) w ≡ None
    not_in_y lt = get-there u t w ys (λ is. omega arith) ∙ get-below ys w (λ i h. omega (arith, after_u i h))

    not_in_x : u < w → get ((w, v) ∷ xs) u ≡ None
    not_in_x lt = get-there w v u xs (λ is. omega arith) ∙ get-below xs u (λ i h. omega (arith, after_w i h))

    tails : w ≡ u → (q : ℕ) → (q ≡ w) ⊎ (q ≡ w → ⊥) → get xs q ≡ get ys q
    tails words q (inl is) = get-below xs q (λ i h. omega (arith, after_w i h)) ∙ sym (get-below ys q (λ i h. omega (arith, after_u i h)))
    tails words q (inr ne) = sym (get-there w v q xs (λ is. ne (sym is))) ∙ same q ∙ get-there u t q ys (λ is. ne (sym is ∙ sym words))

    go : (((q : ℕ) → get xs q ≡ get ys q) → xs ≡ ys) → (w < u) ⊎ (u ≤ w) → (u < w) ⊎ (w ≤ u) → (let x : ℕ × ℕ = (w, v) in x ∷ xs) ≡ (let y : ℕ × ℕ = (u, t) in y ∷ ys)
    go rest_of (inl lt) either = absurd (cc (same w, get-here w v xs, not_in_y lt))
    go rest_of (inr le) (inl lt) = absurd (cc (same u, get-here u t ys, not_in_x lt))
    go rest_of (inr le) (inr ge) =
        let words : w ≡ u = omega arith in
        let here : get ((u, t) ∷ ys) w ≡ Some t = rw words (get-here u t ys) in
        let values : v ≡ t = cc (same w, get-here w v xs, here) in
        let rest : xs ≡ ys = rest_of (λ q. tails words q (cases_eq q w)) in
        cc

-- an entry of word n before later ones, or these alone
words_after : (n x : ℕ) (rest : Entries) (b : Bool) → ((j : ℕ) → j < length rest → n + 1 ≤ word_at rest j)
    → (i : ℕ) → i < length (cond b ((n, x) ∷ rest) rest) → n ≤ word_at (cond b ((n, x) ∷ rest) rest) i
words_after n x rest true above zero h = omega arith
words_after n x rest true above (suc i) h = omega (arith, above i (omega arith))
words_after n x rest false above i h = omega (arith, above i h)

ascending_after : (n x : ℕ) (rest : Entries) (b : Bool) → ((j : ℕ) → j < length rest → n + 1 ≤ word_at rest j)
    → IsAscending rest → IsAscending (cond b ((n, x) ∷ rest) rest)
ascending_after n x rest true above up zero zero lt h = absurd (omega arith)
ascending_after n x rest true above up zero (suc j) lt h = omega (arith, above j (omega arith))
ascending_after n x rest true above up (suc i) zero lt h = absurd (omega arith)
ascending_after n x rest true above up (suc i) (suc j) lt h = up i j (omega arith) (omega arith)
ascending_after n x rest false above up i j lt h = up i j lt h

get-after : (n x q : ℕ) (rest : Entries) (b : Bool) → n ≢ q → get (cond b ((n, x) ∷ rest) rest) q ≡ get rest q
get-after n x q rest true ne = get-there n x q rest ne
get-after n x q rest false ne = refl

module _ (ys : List ℕ) where
  abbrev differs : ℕ × ℕ → Bool
  differs word = not (word.1 == slice_index ys word.0)

  -- the differences of the words from n on, whose first values are xs
  abbrev from : ℕ → List ℕ → Entries
  from n xs = filter differs (enumerate_from n xs)

  words_from : (n : ℕ) (xs : List ℕ) (i : ℕ) → i < length (from n xs) → n ≤ word_at (from n xs) i
  words_from n [] i h = absurd (omega arith)
  words_from n (x ∷ xs) i h = words_after n x (from (n + 1) xs) (differs (n, x)) (words_from (n + 1) xs) i h

  ascending_from : (n : ℕ) (xs : List ℕ) → IsAscending (from n xs)
  ascending_from n [] = λ i j lt h. absurd (omega arith)
  ascending_from n (x ∷ xs) = ascending_after n x (from (n + 1) xs) (differs (n, x)) (words_from (n + 1) xs) (ascending_from (n + 1) xs)

  get-first : (n x : ℕ) (xs : List ℕ) → get (from n (x ∷ xs)) n ≡ (if x == slice_index ys n then None else Some x)
  get-first n x xs = elim (eqb_tells x (slice_index ys n)) [
    | inl e ↦ rw e.0 (get-below (from (n + 1) xs) n (λ i h. omega (arith, words_from (n + 1) xs i h)))
    | inr e ↦ rw e.0 (get-here n x (from (n + 1) xs))
  ]

  get-from : (n : ℕ) (xs : List ℕ) (i : ℕ) → i < length xs
      → get (from n xs) (n + i) ≡ (if get_or xs i 0 == slice_index ys (n + i) then None else Some (get_or xs i 0))
  get-from n [] i h = absurd (omega arith)
  get-from n (x ∷ xs) zero h = subst (λ q. get (from n (x ∷ xs)) q ≡ (if x == slice_index ys q then None else Some x)) (let e : n ≡ n + 0 = omega arith in e) (get-first n x xs)
  get-from n (x ∷ xs) (suc i) h =
      let P = λ (q : ℕ). get (from n (x ∷ xs)) q ≡ (if get_or xs i 0 == slice_index ys q then None else Some (get_or xs i 0)) in
      subst P (let e : n + 1 + i ≡ n + suc i = omega arith in e)
      (get-after n x (n + 1 + i) (from (n + 1) xs) (differs (n, x)) (λ is. omega arith) ∙ get-from (n + 1) xs i (omega arith))

  get-past : (n : ℕ) (xs : List ℕ) (q : ℕ) → n + length xs ≤ q → get (from n xs) q ≡ None
  get-past n [] q h = refl
  get-past n (x ∷ xs) q h = get-after n x q (from (n + 1) xs) (differs (n, x)) (λ is. omega arith) ∙ get-past (n + 1) xs q (omega arith)

  length_from : (n : ℕ) (xs : List ℕ) → length (from n xs) ≤ length xs
  length_from n [] = omega arith
  length_from n (x ∷ xs) = go (differs (n, x)) (length_from (n + 1) xs)
    where
      go : (b : Bool) → length (from (n + 1) xs) ≤ length xs → length (cond b ((n, x) ∷ from (n + 1) xs) (from (n + 1) xs)) ≤ suc (length xs)
      go true h = omega arith
      go false h = omega arith

  fewer_from : (n : ℕ) (xs : List ℕ) (i : ℕ) → i < length xs → get (from n xs) (n + i) ≡ None → length (from n xs) < length xs
  fewer_from n [] i h none = absurd (omega arith)
  fewer_from n (x ∷ xs) zero h none = go (differs (n, x)) (length_from (n + 1) xs) (subst (λ q. get (from n (x ∷ xs)) q ≡ None) (let e : n + 0 ≡ n = omega arith in e) none)
    where
      go : (b : Bool) → length (from (n + 1) xs) ≤ length xs → get (cond b ((n, x) ∷ from (n + 1) xs) (from (n + 1) xs)) n ≡ None
          → length (cond b ((n, x) ∷ from (n + 1) xs) (from (n + 1) xs)) < suc (length xs)
      go true h none = absurd (cc (none, get-here n x (from (n + 1) xs)))
      go false h none = omega arith
  fewer_from n (x ∷ xs) (suc i) h none = go (differs (n, x)) (fewer_from (n + 1) xs i (omega arith)
      (sym (get-after n x (n + 1 + i) (from (n + 1) xs) (differs (n, x)) (λ is. omega arith))
      ∙ subst (λ q. get (from n (x ∷ xs)) q ≡ None) (let e : n + suc i ≡ n + 1 + i = omega arith in e) none))
    where
      go : (b : Bool) → length (from (n + 1) xs) < length xs → length (cond b ((n, x) ∷ from (n + 1) xs) (from (n + 1) xs)) < suc (length xs)
      go true h = omega arith
      go false h = omega arith

  pub ascending-differences : (xs : List ℕ) → IsAscending (differences xs ys)
  ascending-differences xs = ascending_from 0 xs

  -- where a word is not listed, not all are
  pub fewer : (xs : List ℕ) (w : ℕ) → w < length xs → get (differences xs ys) w ≡ None → length (differences xs ys) < length xs
  fewer xs w h none = fewer_from 0 xs w h (subst (λ q. get (differences xs ys) q ≡ None) (let e : w ≡ 0 + w = omega arith in e) none)

  pub get-differences : (xs : List ℕ) → length ys ≤ length xs → (w : ℕ) → get (differences xs ys) w ≡ difference_at xs ys w
  get-differences xs long w = go (cases_lt w (length xs))
    where
      go : (w < length xs) ⊎ (length xs ≤ w) → get (differences xs ys) w ≡ difference_at xs ys w
      go (inl h) =
          let P = λ (q : ℕ). get (differences xs ys) q ≡ (if slice_index xs w == slice_index ys q then None else Some (slice_index xs w)) in
          subst P (let e : 0 + w ≡ w = omega arith in e) (get-from 0 xs w h)
      go (inr h) =
          let here : slice_index xs w ≡ 0 = get_or-eq_default xs 0 h in
          let there : slice_index ys w ≡ 0 = get_or-eq_default ys 0 (omega arith) in
          get-past 0 xs w (omega arith) ∙ rw (here, there) refl

  -- the one ascending list that has of each word its difference
  pub is_differences : (new : Entries) (xs : List ℕ) → length ys ≤ length xs → IsAscending new → ((w : ℕ) → get new w ≡ difference_at xs ys w) → new ≡ differences xs ys
  is_differences new xs long up same = same_entries new (differences xs ys) up (ascending-differences xs) (λ w. same w ∙ sym (get-differences xs long w))
