-- How many numbers pass: at most as many, fewer, and all below a place.
use Rattle.std.proofs.Common.{ℕ, zero, suc, ◌≡◌, ◌<◌, ◌≤◌, ◌⊎◌, Bool, true, false, inl, inr, refl, arith, sym}
use Rattle.std.proofs.Common.{ap, ◌∙◌}
use Rattle.std.specs.Prelude.{if◌then◌else◌}
use Rattle.std.proofs.lemmas.Bool.{cases_lt, false≢true}
use Rattle.windows.specs.Counting.{how_many}

-- what one number adds
one_at_most : (x y : Bool) → (x ≡ true → y ≡ true) → (if x then 1 else 0) ≤ (if y then 1 else 0)
one_at_most true true so = omega arith
one_at_most true false so = absurd (false≢true (so refl))
one_at_most false true so = omega arith
one_at_most false false so = omega arith

one_less : (x y : Bool) → x ≡ false → y ≡ true → (if x then 1 else 0) < (if y then 1 else 0)
one_less true y fail pass = cc (fail)
one_less false true fail pass = omega arith
one_less false false fail pass = cc

-- where each that passes the one test passes the other
pub at_most : (p q : ℕ → Bool) (n : ℕ) → ((v : ℕ) → v < n → p v ≡ true → q v ≡ true) → how_many p n ≤ how_many q n
at_most p q zero so = omega arith
at_most p q (suc n) so =
    let before : how_many p n ≤ how_many q n = at_most p q n (λ v lt. so v (omega arith)) in
    let here : (if p n then 1 else 0) ≤ (if q n then 1 else 0) = one_at_most (p n) (q n) (so n (omega arith)) in
    omega (arith, before, here)

-- and some number passes the other one alone
pub fewer : (p q : ℕ → Bool) (n c : ℕ) → ((v : ℕ) → v < n → p v ≡ true → q v ≡ true) → c < n → p c ≡ false → q c ≡ true
    → how_many p n < how_many q n
fewer p q zero c so lt fail pass = absurd (omega arith)
fewer p q (suc n) c so lt fail pass =
    go (cases_lt c n) (λ less. fewer p q n c (λ v below. so v (omega arith)) less fail pass)
  where
    go : (c < n) ⊎ (n ≤ c) → (c < n → how_many p n < how_many q n) → how_many p (suc n) < how_many q (suc n)
    go (inl less) again =
        let before : how_many p n < how_many q n = again less in
        let here : (if p n then 1 else 0) ≤ (if q n then 1 else 0) = one_at_most (p n) (q n) (so n (omega arith)) in
        omega (arith, before, here)
    go (inr more) again =
        let same : c ≡ n = omega arith in
        let before : how_many p n ≤ how_many q n = at_most p q n (λ v lt. so v (omega arith)) in
        let here : (if p n then 1 else 0) < (if q n then 1 else 0) =
        one_less (p n) (q n) (ap p (sym same) ∙ fail) (ap q (sym same) ∙ pass) in
        omega (arith, before, here)

-- fail more than there are
pub no_more_than : (p : ℕ → Bool) (n : ℕ) → how_many p n ≤ n
no_more_than p zero = omega arith
no_more_than p (suc n) =
    let before : how_many p n ≤ n = no_more_than p n in
    let here : (if p n then 1 else 0) ≤ 1 = one (p n) in
    omega (arith, before, here)
  where
    one : (x : Bool) → (if x then 1 else 0) ≤ 1
    one true = omega arith
    one false = omega arith

-- one that passes
pub some_passes : (p : ℕ → Bool) (n v : ℕ) → v < n → p v ≡ true → 0 < how_many p n
some_passes p zero v lt pass = absurd (omega arith)
some_passes p (suc n) v lt pass = go (cases_lt v n) (λ less. some_passes p n v less pass)
  where
    go : (v < n) ⊎ (n ≤ v) → (v < n → 0 < how_many p n) → 0 < how_many p (suc n)
    go (inl less) again = let before : 0 < how_many p n = again less in omega (arith, before)
    go (inr more) again =
        let same : v ≡ n = omega arith in
        let here : 0 < (if p n then 1 else 0) = one_less false (p n) refl (ap p (sym same) ∙ pass) in
        omega (arith, here)
