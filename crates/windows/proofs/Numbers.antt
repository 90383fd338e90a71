-- The numbers that pass, as a list, and by their places among those that pass.
use Rattle.std.proofs.Common.{ℕ, zero, suc, ◌≡◌, ◌<◌, ◌≤◌, ◌+◌, ◌⊎◌, Bool, true, false, List, [], ◌∷◌, length, inl, inr, refl}
use Rattle.std.proofs.Common.{arith, sym, subst, ap, ◌∙◌, ltb}
use Rattle.std.specs.Prelude.{if◌then◌else◌}
use Rattle.std.proofs.lemmas.Bool.{cases_lt, cases_Bool, lt-ltb, le-ltb, cond-true, cond-false}
use Rattle.windows.specs.Counting.{how_many}
use Rattle.windows.specs.Lists.{IsAmong, AreDifferent}

-- those below n that pass, the last one first

abbrev pub all_of : (ℕ → Bool) → ℕ → List ℕ
all_of p zero = []
all_of p (suc n) = if p n then n ∷ all_of p n else all_of p n

all_of_true : (p : ℕ → Bool) (n : ℕ) → p n ≡ true → all_of p (suc n) ≡ n ∷ all_of p n
all_of_true p n pass = cond-true (p n) (n ∷ all_of p n) (all_of p n) pass

all_of_false : (p : ℕ → Bool) (n : ℕ) → p n ≡ false → all_of p (suc n) ≡ all_of p n
all_of_false p n fail = cond-false (p n) (n ∷ all_of p n) (all_of p n) fail

pub of_all : (p : ℕ → Bool) (n v : ℕ) → IsAmong v (all_of p n) → (v < n) × (p v ≡ true)
of_all p zero v among = absurd among
of_all p (suc n) v among = go (cases_Bool (p n)) (λ later. of_all p n v later)
  where
    first : p n ≡ true → IsAmong v (n ∷ all_of p n) → (IsAmong v (all_of p n) → (v < n) × (p v ≡ true))
        → (v < suc n) × (p v ≡ true)
    first pass (inl same) again = (omega (arith, same), ap p (sym same) ∙ pass)
    first pass (inr later) again = let was : (v < n) × (p v ≡ true) = again later in (omega (arith, was.0), was.1)

    go : (p n ≡ true) ⊎ (p n ≡ false) → (IsAmong v (all_of p n) → (v < n) × (p v ≡ true))
        → (v < suc n) × (p v ≡ true)
    go (inl pass) again = first pass (subst (λ (vs : List ℕ). IsAmong v vs) (all_of_true p n pass) among) again
    go (inr fail) again =
        let was : (v < n) × (p v ≡ true) =
        again (subst (λ (vs : List ℕ). IsAmong v vs) (all_of_false p n fail) among) in
        (omega (arith, was.0), was.1)

pub in_all : (p : ℕ → Bool) (n v : ℕ) → v < n → p v ≡ true → IsAmong v (all_of p n)
in_all p zero v lt pass = absurd (omega arith)
in_all p (suc n) v lt pass = go (cases_lt v n) (cases_Bool (p n)) (λ less. in_all p n v less pass)
  where
    go : (v < n) ⊎ (n ≤ v) → (p n ≡ true) ⊎ (p n ≡ false) → (v < n → IsAmong v (all_of p n))
        → IsAmong v (all_of p (suc n))
    go (inl less) (inl last) again =
        subst (λ (vs : List ℕ). IsAmong v vs) (sym (all_of_true p n last)) (inr (again less))
    go (inl less) (inr fail) again =
        subst (λ (vs : List ℕ). IsAmong v vs) (sym (all_of_false p n fail)) (again less)
    go (inr more) (inl last) again =
        let same : n ≡ v = omega arith in
        subst (λ (vs : List ℕ). IsAmong v vs) (sym (all_of_true p n last)) (inl same)
    go (inr more) (inr fail) again =
        let same : n ≡ v = omega arith in
        let other : p n ≡ true = ap p same ∙ pass in cc (other, fail)

pub all_different : (p : ℕ → Bool) (n : ℕ) → AreDifferent (all_of p n)
all_different p zero = tt
all_different p (suc n) = go (cases_Bool (p n)) (all_different p n)
  where
    go : (p n ≡ true) ⊎ (p n ≡ false) → AreDifferent (all_of p n) → AreDifferent (all_of p (suc n))
    go (inl pass) rest = subst (λ (vs : List ℕ). AreDifferent vs) (sym (all_of_true p n pass))
        ((λ among. let was : (n < n) × (p n ≡ true) = of_all p n n among in omega (arith, was.0)), rest)
    go (inr fail) rest = subst (λ (vs : List ℕ). AreDifferent vs) (sym (all_of_false p n fail)) rest

pub length_all : (p : ℕ → Bool) (n : ℕ) → length (all_of p n) ≡ how_many p n
length_all p zero = refl
length_all p (suc n) = go (cases_Bool (p n)) (length_all p n)
  where
    go : (p n ≡ true) ⊎ (p n ≡ false) → length (all_of p n) ≡ how_many p n
        → length (all_of p (suc n)) ≡ how_many p (suc n)
    go (inl pass) rest =
        let here : ◌≡◌ {A = ℕ} (if p n then 1 else 0) 1 = cond-true (p n) 1 0 pass in
        let same : length (all_of p (suc n)) ≡ suc (length (all_of p n)) = ap length (all_of_true p n pass) in
        omega (arith, rest, here, same)
    go (inr fail) rest =
        let here : ◌≡◌ {A = ℕ} (if p n then 1 else 0) 0 = cond-false (p n) 1 0 fail in
        let same : length (all_of p (suc n)) ≡ length (all_of p n) = ap length (all_of_false p n fail) in
        omega (arith, rest, here, same)

-- a count grows with its bound, and by each that passes
pub grows : (p : ℕ → Bool) (a b : ℕ) → a ≤ b → how_many p a ≤ how_many p b
grows p a zero le = let same : a ≡ 0 = omega arith in let counts : how_many p a ≡ how_many p 0 = ap (how_many p) same in
    omega (arith, counts)
grows p a (suc b) le = go (cases_lt a (suc b)) (λ less. grows p a b less)
  where
    go : (a < suc b) ⊎ (suc b ≤ a) → (a ≤ b → how_many p a ≤ how_many p b) → how_many p a ≤ how_many p (suc b)
    go (inl less) again = let le : how_many p a ≤ how_many p b = again (omega arith) in omega (arith, le)
    go (inr more) again =
        let same : a ≡ suc b = omega arith in
        let counts : how_many p a ≡ how_many p (suc b) = ap (how_many p) same in omega (arith, counts)

pub grows_by : (p : ℕ → Bool) (a b : ℕ) → a < b → p a ≡ true → how_many p a < how_many p b
grows_by p a b lt pass =
    let here : ◌≡◌ {A = ℕ} (if p a then 1 else 0) 1 = cond-true (p a) 1 0 pass in
    let le : how_many p (suc a) ≤ how_many p b = grows p (suc a) b (omega arith) in
    omega (arith, here, le)

-- the k-th of those that pass
abbrev pub nth : (ℕ → Bool) → ℕ → ℕ → ℕ
nth p zero k = 0
nth p (suc n) k = if ltb k (how_many p n) then nth p n k else n

pub record IsNth (p : ℕ → Bool) (n k v : ℕ) : Type 0 where
  pub below : v < n
  pub passes : p v ≡ true
  pub rank : how_many p v ≡ k

pub nth_is : (p : ℕ → Bool) (n k : ℕ) → k < how_many p n → IsNth p n k (nth p n k)
nth_is p zero k lt = absurd (omega (arith, lt))
nth_is p (suc n) k lt = go (cases_lt k (how_many p n)) (cases_Bool (p n)) (λ less. nth_is p n k less)
  where
    go : (k < how_many p n) ⊎ (how_many p n ≤ k) → (p n ≡ true) ⊎ (p n ≡ false)
        → (k < how_many p n → IsNth p n k (nth p n k)) → IsNth p (suc n) k (nth p (suc n) k)
    go (inl less) last again =
        let was : IsNth p n k (nth p n k) = again less in
        subst (IsNth p (suc n) k)
        (sym (cond-true (ltb k (how_many p n)) (nth p n k) n (lt-ltb k (how_many p n) less)))
        (record { below = omega (arith, was.below); passes = was.passes; rank = was.rank })
    go (inr more) (inl pass) again =
        let here : ◌≡◌ {A = ℕ} (if p n then 1 else 0) 1 = cond-true (p n) 1 0 pass in
        subst (IsNth p (suc n) k)
        (sym (cond-false (ltb k (how_many p n)) (nth p n k) n (le-ltb k (how_many p n) more)))
        (record { below = omega arith; passes = pass; rank = omega (arith, lt, here, more) })
    go (inr more) (inr fail) again =
        absurd (let here : ◌≡◌ {A = ℕ} (if p n then 1 else 0) 0 = cond-false (p n) 1 0 fail in omega (arith, lt, here, more))

-- one that passes is the one of its rank
pub nth_rank : (p : ℕ → Bool) (n v : ℕ) → v < n → p v ≡ true → nth p n (how_many p v) ≡ v
nth_rank p n v lt pass = go (cases_lt (nth p n (how_many p v)) v) (cases_lt v (nth p n (how_many p v)))
  where
    is : IsNth p n (how_many p v) (nth p n (how_many p v))
    is = nth_is p n (how_many p v) (grows_by p v n lt pass)

    go : (nth p n (how_many p v) < v) ⊎ (v ≤ nth p n (how_many p v))
        → (v < nth p n (how_many p v)) ⊎ (nth p n (how_many p v) ≤ v) → nth p n (how_many p v) ≡ v
    go (inl less) side =
        absurd (let more : how_many p (nth p n (how_many p v)) < how_many p v =
        grows_by p (nth p n (how_many p v)) v less is.passes in omega (arith, more, is.rank))
    go (inr le) (inl less) =
        absurd (let more : how_many p v < how_many p (nth p n (how_many p v)) =
        grows_by p v (nth p n (how_many p v)) less pass in omega (arith, more, is.rank))
    go (inr le) (inr more) = omega arith

-- and they ascend
pub nth_ascend : (p : ℕ → Bool) (n i j : ℕ) → i < j → j < how_many p n → nth p n i < nth p n j
nth_ascend p n i j lt below = go (cases_lt (nth p n i) (nth p n j))
  where
    go : (nth p n i < nth p n j) ⊎ (nth p n j ≤ nth p n i) → nth p n i < nth p n j
    go (inl less) = less
    go (inr more) =
        absurd (let ranks : how_many p (nth p n j) ≤ how_many p (nth p n i) = grows p (nth p n j) (nth p n i) more in
        let one : IsNth p n i (nth p n i) = nth_is p n i (omega (arith, lt, below)) in
        let other : IsNth p n j (nth p n j) = nth_is p n j below in
        omega (arith, ranks, one.rank, other.rank, lt))

-- what a function gives from a number on
abbrev pub from_on : (ℕ → ℕ) → ℕ → ℕ → List ℕ
from_on f a zero = []
from_on f a (suc c) = f a ∷ from_on f (suc a) c

pub length_from : (f : ℕ → ℕ) (a c : ℕ) → length (from_on f a c) ≡ c
length_from f a zero = refl
length_from f a (suc c) = ap suc (length_from f (suc a) c)

pub among_from : (f : ℕ → ℕ) (a c k : ℕ) → a ≤ k → k < a + c → IsAmong (f k) (from_on f a c)
among_from f a zero k le lt = absurd (omega (arith, le, lt))
among_from f a (suc c) k le lt = go (cases_lt a k) (λ more. among_from f (suc a) c k more (omega (arith, lt)))
  where
    go : (a < k) ⊎ (k ≤ a) → (suc a ≤ k → IsAmong (f k) (from_on f (suc a) c)) → IsAmong (f k) (from_on f a (suc c))
    go (inl less) again = inr (again (omega arith))
    go (inr more) again = let same : a ≡ k = omega arith in inl (ap f same)
