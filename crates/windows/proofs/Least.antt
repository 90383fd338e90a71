-- Of the numbers that pass the first with the least key.
use Rattle.std.proofs.Common.{ℕ, zero, suc, ◌≡◌, ◌<◌, ◌≤◌, ◌⊎◌, Bool, true, false, inl, inr, refl, arith, sym, subst}
use Rattle.std.proofs.Common.{ap, ◌∙◌}
use Rattle.std.specs.Prelude.{if◌then◌else◌}
use Rattle.std.proofs.lemmas.Bool.{cases_lt, cases_Bool, cond-false}
use Rattle.windows.specs.Counting.{how_many}

pub record IsLeast (n : ℕ) (p : ℕ → Bool) (key : ℕ → ℕ) (v : ℕ) : Type 0 where
  pub below : v < n
  pub passes : p v ≡ true
  pub least : (w : ℕ) → w < n → p w ≡ true → key v ≤ key w
  pub first : (w : ℕ) → w < v → p w ≡ true → key v < key w

pub record HasNone (n : ℕ) (p : ℕ → Bool) : Type 0 where
  pub none : (w : ℕ) → w < n → p w ≡ true → ⊥

pub data Search (n : ℕ) (p : ℕ → Bool) (key : ℕ → ℕ) : Type 0 where
  found_least : (v : ℕ) → IsLeast n p key v → Search n p key
  found_none : HasNone n p → Search n p key

below_or_last : (w n : ℕ) → w < suc n → (w < n) ⊎ (w ≡ n)
below_or_last w n lt = go (cases_lt w n)
  where
    go : (w < n) ⊎ (n ≤ w) → (w < n) ⊎ (w ≡ n)
    go (inl less) = inl less
    go (inr more) = inr (omega arith)

pub search_least : (n : ℕ) (p : ℕ → Bool) (key : ℕ → ℕ) → Search n p key
search_least zero p key = found_none (record { none = λ w lt pass. absurd (omega arith) })
search_least (suc n) p key = go (search_least n p key) (cases_Bool (p n))
  where
    stays : (v : ℕ) → IsLeast n p key v → (p n ≡ true → key v ≤ key n) → IsLeast (suc n) p key v
    stays v is so = record {
      below = omega (arith, is.below);
      passes = is.passes;
      least = λ w lt pass. at w pass (below_or_last w n lt);
      first = is.first;
    }
      where
        at : (w : ℕ) → p w ≡ true → (w < n) ⊎ (w ≡ n) → key v ≤ key w
        at w pass (inl less) = is.least w less pass
        at w pass (inr same) = subst (λ (m : ℕ). key v ≤ key m) (sym same) (so (ap p (sym same) ∙ pass))

    last : ((w : ℕ) → w < n → p w ≡ true → key n < key w) → p n ≡ true → IsLeast (suc n) p key n
    last so here = record {
      below = omega arith;
      passes = here;
      least = λ w lt pass. at w pass (below_or_last w n lt);
      first = so;
    }
      where
        at : (w : ℕ) → p w ≡ true → (w < n) ⊎ (w ≡ n) → key n ≤ key w
        at w pass (inl less) = let more : key n < key w = so w less pass in omega (arith, more)
        at w pass (inr same) = let keys : key w ≡ key n = ap key same in omega (arith, keys)

    both : (v : ℕ) → IsLeast n p key v → p n ≡ true → (key n < key v) ⊎ (key v ≤ key n) → Search (suc n) p key
    both v is here (inl less) = found_least n (last (λ w lt pass. let le : key v ≤ key w = is.least w lt pass in
        omega (arith, le)) here)
    both v is here (inr more) = found_least v (stays v is (λ pass. more))

    go : Search n p key → (p n ≡ true) ⊎ (p n ≡ false) → Search (suc n) p key
    go (found_none fail) (inl here) = found_least n (last (λ w lt pass. absurd (fail.none w lt pass)) here)
    go (found_none fail) (inr not) = found_none (record { none = λ w lt pass. at w pass (below_or_last w n lt) })
      where
        at : (w : ℕ) → p w ≡ true → (w < n) ⊎ (w ≡ n) → ⊥
        at w pass (inl less) = fail.none w less pass
        at w pass (inr same) = let here : p n ≡ true = ap p (sym same) ∙ pass in cc
    go (found_least v is) (inl here) = both v is here (cases_lt (key n) (key v))
    go (found_least v is) (inr not) = found_least v (stays v is (λ pass. cc))

-- then none is counted
pub none_counts : (n : ℕ) (p : ℕ → Bool) → HasNone n p → how_many p n ≡ 0
none_counts zero p fail = refl
none_counts (suc n) p fail =
    let before : how_many p n ≡ 0 = none_counts n p (record { none = λ w lt pass. fail.none w (omega (arith, lt)) pass }) in
    let here : ◌≡◌ {A = ℕ} (if p n then 1 else 0) 0 = cond-false (p n) 1 0 (by (cases_Bool (p n))) in
    omega (arith, before, here)
  where
    by : (p n ≡ true) ⊎ (p n ≡ false) → p n ≡ false
    by (inl pass) = absurd (fail.none n (omega arith) pass)
    by (inr not) = not
