-- The list of open takes, found by one walk; and counts.
use Rattle.std.proofs.Common.{ℕ, suc, ◌≡◌, ◌<◌, ◌≤◌, ◌+◌, ◌⊎◌, Bool, true, false, List, [], ◌∷◌, ◌++◌, length, get_or, inl, inr}
use Rattle.std.proofs.Common.{refl, arith, sym, ◌∙◌, ap}
use Rattle.std.specs.Prelude.{if◌then◌else◌}
use Rattle.std.proofs.lemmas.Bool.{cases_lt}
use Rattle.std.proofs.lemmas.List.{get_or_append_left, length_push, get_or_push}
use Rattle.windows.specs.Calls.{Calls}
use Rattle.windows.specs.Counting.{how_many}
use Rattle.deciding.specs.Tables.{AreOpens}
use Rattle.windows.proofs.Facts.{open_at, begin_of, nth_rank}

-- a count with one more
pub count_next : (p : ℕ → Bool) (k c d : ℕ) (b : Bool) → c ≡ how_many p k → b ≡ p k
    → d ≡ c + (if b then 1 else 0) → d ≡ how_many p (k + 1)
count_next p k c d b before same after =
    let one : ◌≡◌ {A = ℕ} (if b then 1 else 0) (if p k then 1 else 0) = ap (λ (x : Bool). if x then 1 else 0) same in
    let next : how_many p (k + 1) ≡ how_many p (suc k) = ap (how_many p) (let s : k + 1 ≡ suc k = omega arith in s) in
    omega (arith, before, one, after, next)

pub record OpensSo (calls : Calls) (k : ℕ) (opens : List ℕ) : Type 0 where
  pub long : length opens ≡ how_many (open_at calls) k
  pub each : (j : ℕ) → j < length opens → get_or opens j 0 ≡ begin_of calls j

pub opens_none : (calls : Calls) → OpensSo calls 0 []
opens_none calls = record { long = refl; each = λ j lt. absurd (omega (arith, lt)) }

pub opens_same : (calls : Calls) (k : ℕ) (opens : List ℕ) → OpensSo calls k opens → open_at calls k ≡ false
    → OpensSo calls (k + 1) opens
opens_same calls k opens so fail = record {
  long = count_next (open_at calls) k (length opens) (length opens) false so.long (sym fail) (omega arith);
  each = so.each;
}

pub opens_more : (calls : Calls) (k : ℕ) (opens : List ℕ) → OpensSo calls k opens → k < calls.places
    → open_at calls k ≡ true → OpensSo calls (k + 1) (opens ++ k ∷ [])
opens_more calls k opens so lt pass = record {
  long = count_next (open_at calls) k (length opens) (length (opens ++ k ∷ [])) true so.long (sym pass)
      (length_push opens k);
  each = λ j below. at j below (cases_lt j (length opens));
}
  where
    at : (j : ℕ) → j < length (opens ++ k ∷ []) → (j < length opens) ⊎ (length opens ≤ j)
        → get_or (opens ++ k ∷ []) j 0 ≡ begin_of calls j
    at j below (inl less) = get_or_append_left opens (k ∷ []) 0 j less ∙ so.each j less
    at j below (inr more) =
        let len : length (opens ++ k ∷ []) ≡ length opens + 1 = length_push opens k in
        let same : length opens ≡ j = omega (arith, below, more, len) in
        let rank : how_many (open_at calls) k ≡ j = sym so.long ∙ same in
        get_or_push opens k 0 j same
        ∙ sym (nth_rank (open_at calls) calls.places k lt pass)
        ∙ ap (begin_of calls) rank

-- the whole list
pub opens_all : (calls : Calls) (k : ℕ) (opens : List ℕ) → calls.places ≡ k → OpensSo calls k opens
    → AreOpens calls opens
opens_all calls k opens same so = record {
  long = so.long ∙ ap (how_many (open_at calls)) (sym same);
  each = λ j lt. so.each j (let len : length opens ≡ how_many (open_at calls) k = so.long in
      let counts : how_many (open_at calls) calls.places ≡ how_many (open_at calls) k =
      ap (how_many (open_at calls)) same in omega (arith, lt, len, counts));
}

pub one_more : (k c d : ℕ) (b : Bool) → c ≤ k → d ≡ c + (if b then 1 else 0) → d ≤ k + 1
one_more k c d true le is = omega (arith, le, is)
one_more k c d false le is = omega (arith, le, is)
