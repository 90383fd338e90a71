-- Which take got which value, and that no value is invented, came out twice, or was passed over alone; or else the pattern.
use Rattle.std.proofs.Common.{ℕ, zero, suc, ◌≡◌, ◌<◌, ◌≤◌, ◌⊎◌, Bool, true, false, inl, inr, refl}
use Rattle.std.proofs.Common.{arith, sym, subst, ap, ◌∙◌, eqb}
use Rattle.std.proofs.lemmas.Bool.{cases_lt, cases_eq, eqb-true, eq-eqb}
use Rattle.windows.specs.Calls.{Known, no_call, put_done, put_not, put_open, took, found_nothing, take_not, take_open}
use Rattle.windows.specs.Calls.{Calls, AreCalls, late, Pattern}
use Rattle.windows.specs.Calls.{invented, twice, passed_over}
use Rattle.windows.proofs.Least.{Search, found_least, found_none, search_least}

-- so it is of each number below n, or something else is so
pub all_or : {P : ℕ → Type 0} {Q : Type 0} (n : ℕ) → ((v : ℕ) → v < n → P v ⊎ Q) → ((v : ℕ) → v < n → P v) ⊎ Q
all_or zero each = inl (λ v lt. absurd (omega (arith, lt)))
all_or {P} {Q} (suc n) each = go (each n (omega arith)) (all_or n (λ v lt. each v (omega (arith, lt))))
  where
    at : P n → ((v : ℕ) → v < n → P v) → (v : ℕ) → v < suc n → (v < n) ⊎ (n ≤ v) → P v
    at here before v lt (inl less) = before v less
    at here before v lt (inr more) = let same : n ≡ v = omega (arith, lt, more) in subst P same here

    go : P n ⊎ Q → ((v : ℕ) → v < n → P v) ⊎ Q → ((v : ℕ) → v < suc n → P v) ⊎ Q
    go (inr other) before = inr other
    go (inl here) (inr other) = inr other
    go (inl here) (inl before) = inl (λ v lt. at here before v lt (cases_lt v n))

-- what is known of a call, by cases
pub took_or_not : (known : Known) → ((v : ℕ) × (known ≡ took v)) ⊎ ((v : ℕ) → known ≡ took v → ⊥)
took_or_not no_call = inr (λ v is. cc (is))
took_or_not put_done = inr (λ v is. cc (is))
took_or_not put_not = inr (λ v is. cc (is))
took_or_not put_open = inr (λ v is. cc (is))
took_or_not (took v) = inl (v, refl)
took_or_not found_nothing = inr (λ v is. cc (is))
took_or_not take_not = inr (λ v is. cc (is))
took_or_not take_open = inr (λ v is. cc (is))

pub put_not_or : (known : Known) → (known ≡ put_not) ⊎ (known ≡ put_not → ⊥)
put_not_or no_call = inr (λ is. cc (is))
put_not_or put_done = inr (λ is. cc (is))
put_not_or put_not = inl refl
put_not_or put_open = inr (λ is. cc (is))
put_not_or (took v) = inr (λ is. cc (is))
put_not_or found_nothing = inr (λ is. cc (is))
put_not_or take_not = inr (λ is. cc (is))
put_not_or take_open = inr (λ is. cc (is))

abbrev pub is_took : Known → ℕ → Bool
is_took no_call v = false
is_took put_done v = false
is_took put_not v = false
is_took put_open v = false
is_took (took w) v = eqb w v
is_took found_nothing v = false
is_took take_not v = false
is_took take_open v = false

pub took_is : (known : Known) (v : ℕ) → is_took known v ≡ true → known ≡ took v
took_is no_call v pass = cc (pass)
took_is put_done v pass = cc (pass)
took_is put_not v pass = cc (pass)
took_is put_open v pass = cc (pass)
took_is (took w) v pass = ap took (eqb-true w v pass)
took_is found_nothing v pass = cc (pass)
took_is take_not v pass = cc (pass)
took_is take_open v pass = cc (pass)

pub took_from : (known : Known) (v : ℕ) → known ≡ took v → is_took known v ≡ true
took_from known v is = ap (λ (k : Known). is_took k v) is ∙ eq-eqb v v refl

pub record IsTakenBy (calls : Calls) (v t : ℕ) : Type 0 where
  pub within : t < calls.places
  pub got : calls.known t ≡ took v

pub record IsUntaken (calls : Calls) (v : ℕ) : Type 0 where
  pub none : (t : ℕ) → t < calls.places → calls.known t ≡ took v → ⊥

-- the first take that got the value, or as many as there are places
pub record Taker (calls : Calls) (v : ℕ) : Type 0 where
  pub at : ℕ
  pub is : IsTakenBy calls v at ⊎ ((at ≡ calls.places) × IsUntaken calls v)
  pub first : (s : ℕ) → s < at → calls.known s ≡ took v → ⊥

pub taker : (calls : Calls) (v : ℕ) → Taker calls v
taker calls v = go (search_least calls.places (λ t. is_took (calls.known t) v) (λ t. t))
  where
    go : Search calls.places (λ t. is_took (calls.known t) v) (λ t. t) → Taker calls v
    go (found_least t first) = record {
      at = t;
      is = inl (record { within = first.below; got = took_is (calls.known t) v first.passes });
      first = λ s lt got. let le : t ≤ s =
          first.least s (omega (arith, lt, first.below)) (took_from (calls.known s) v got) in omega (arith, le, lt);
    }
    go (found_none fail) = record {
      at = calls.places;
      is = inr (refl, record { none = λ t lt got. fail.none t lt (took_from (calls.known t) v got) });
      first = λ s lt got. fail.none s lt (took_from (calls.known s) v got);
    }

abbrev pub take_of : Calls → ℕ → ℕ
take_of calls v = (taker calls v).at

-- the value is known to have come out, by the take that it has
abbrev pub IsOut : Calls → ℕ → Type 0
IsOut calls v = IsTakenBy calls v (take_of calls v)

pub out_if_below : (calls : Calls) (v : ℕ) → take_of calls v < calls.places → IsOut calls v
out_if_below calls v lt = go (taker calls v).is
  where
    go : IsOut calls v ⊎ ((take_of calls v ≡ calls.places) × IsUntaken calls v) → IsOut calls v
    go (inl is) = is
    go (inr fail) = absurd (omega (arith, lt, fail.0))

pub untaken_if_not : (calls : Calls) (v : ℕ) → calls.places ≤ take_of calls v → IsUntaken calls v
untaken_if_not calls v le = go (taker calls v).is
  where
    go : IsOut calls v ⊎ ((take_of calls v ≡ calls.places) × IsUntaken calls v) → IsUntaken calls v
    go (inl is) = absurd (omega (arith, le, is.within))
    go (inr fail) = fail.1

-- nothing is wrong with values that are known to have come out
pub record ArePaired (calls : Calls) : Type 0 where
  pub put : (t v : ℕ) → t < calls.places → calls.known t ≡ took v → (calls.known v ≡ put_not → ⊥) × (v ≤ calls.end t)
  pub once : (t v : ℕ) → t < calls.places → calls.known t ≡ took v → take_of calls v ≡ t
  pub in_turn : (v w : ℕ) → IsOut calls v → IsOut calls w → calls.end v < w
      → calls.end (take_of calls w) < take_of calls v → ⊥

module _ (calls : Calls) (are : AreCalls calls) where
  PutBefore : ℕ → Type 0
  PutBefore t = (v : ℕ) → calls.known t ≡ took v → (calls.known v ≡ put_not → ⊥) × (v ≤ calls.end t)

  put_before : (t : ℕ) → t < calls.places → PutBefore t ⊎ Pattern calls
  unfolding PutBefore
  put_before t lt = go (took_or_not (calls.known t))
    where
      by : (v : ℕ) → calls.known t ≡ took v → (calls.known v ≡ put_not) ⊎ (calls.known v ≡ put_not → ⊥)
          → (calls.end t < v) ⊎ (v ≤ calls.end t)
          → ((w : ℕ) → calls.known t ≡ took w → (calls.known w ≡ put_not → ⊥) × (w ≤ calls.end t)) ⊎ Pattern calls
      by v got (inl refused) side = inr (invented t v (record { within = lt; got = got; nobody = inl refused }))
      by v got (inr differ) (inl later) = inr (invented t v (record { within = lt; got = got; nobody = inr later }))
      by v got (inr differ) (inr le) = inl (λ w other.
          let same : took v ≡ took w = sym got ∙ other in
          let values : v ≡ w = cc (same) in
          ((λ refused. differ (ap calls.known values ∙ refused)), omega (arith, le, values)))

      go : ((v : ℕ) × (calls.known t ≡ took v)) ⊎ ((v : ℕ) → calls.known t ≡ took v → ⊥)
          → ((w : ℕ) → calls.known t ≡ took w → (calls.known w ≡ put_not → ⊥) × (w ≤ calls.end t)) ⊎ Pattern calls
      go (inl (v, got)) = by v got (put_not_or (calls.known v)) (cases_lt (calls.end t) v)
      go (inr fail) = inl (λ w got. absurd (fail w got))

  Once : ℕ → Type 0
  Once t = (v : ℕ) → calls.known t ≡ took v → take_of calls v ≡ t

  once : (t : ℕ) → t < calls.places → Once t ⊎ Pattern calls
  unfolding Once
  once t lt = go (took_or_not (calls.known t))
    where
      by : (v : ℕ) → calls.known t ≡ took v → (take_of calls v ≡ t) ⊎ (take_of calls v ≡ t → ⊥)
          → IsOut calls v ⊎ ((take_of calls v ≡ calls.places) × IsUntaken calls v)
          → ((w : ℕ) → calls.known t ≡ took w → take_of calls w ≡ t) ⊎ Pattern calls
      by v got (inl same) is = inl (λ w other.
          let both : took v ≡ took w = sym got ∙ other in
          let values : v ≡ w = cc (both) in ap (take_of calls) (sym values) ∙ same)
      by v got (inr differ) (inl out) = inr (twice (take_of calls v) t v (record {
        first_within = out.within;
        second_within = lt;
        one = out.got;
        other = got;
        two = differ;
      }))
      by v got (inr differ) (inr fail) = absurd (fail.1.none t lt got)

      go : ((v : ℕ) × (calls.known t ≡ took v)) ⊎ ((v : ℕ) → calls.known t ≡ took v → ⊥)
          → ((w : ℕ) → calls.known t ≡ took w → take_of calls w ≡ t) ⊎ Pattern calls
      go (inl (v, got)) = by v got (cases_eq (take_of calls v) t) (taker calls v).is
      go (inr fail) = inl (λ w got. absurd (fail w got))

  abbrev InTurn : ℕ → ℕ → Type 0
  InTurn w v = IsOut calls v → IsOut calls w → calls.end v < w → calls.end (take_of calls w) < take_of calls v → ⊥

  in_turn : (w v : ℕ) → InTurn w v ⊎ Pattern calls
  in_turn w v = go (cases_lt (take_of calls v) calls.places) (cases_lt (take_of calls w) calls.places)
      (cases_lt (calls.end v) w) (cases_lt (calls.end (take_of calls w)) (take_of calls v))
    where
      go : (take_of calls v < calls.places) ⊎ (calls.places ≤ take_of calls v)
          → (take_of calls w < calls.places) ⊎ (calls.places ≤ take_of calls w)
          → (calls.end v < w) ⊎ (w ≤ calls.end v)
          → (calls.end (take_of calls w) < take_of calls v) ⊎ (take_of calls v ≤ calls.end (take_of calls w))
          → InTurn w v ⊎ Pattern calls
      go (inr fail) side ahead before = inl (λ one other lt less. omega (arith, one.within, fail))
      go (inl out) (inr fail) ahead before = inl (λ one other lt less. omega (arith, other.within, fail))
      go (inl out) (inl other_out) (inr fail) before = inl (λ one other lt less. omega (arith, lt, fail))
      go (inl out) (inl other_out) (inl ahead) (inr fail) = inl (λ one other lt less. omega (arith, less, fail))
      go (inl out) (inl other_out) (inl ahead) (inl before) =
          let one : IsOut calls v = out_if_below calls v out in
          let other : IsOut calls w = out_if_below calls w other_out in
          inr (passed_over (take_of calls w) w (late v (take_of calls v)) (record {
            within = other.within;
            got = other.got;
            ahead = λ u same. let ends : calls.end u ≡ calls.end v = ap calls.end same in omega (arith, ends, ahead);
            lacks = record { within = one.within; got = one.got; late = omega (arith, before) };
          }))

  -- no value of a call behind all is known to have come out
  out_within : (v : ℕ) → IsOut calls v → v < calls.places
  out_within v out = (are.sources (take_of calls v) v out.within out.got).0

  pub paired_or : ArePaired calls ⊎ Pattern calls
  unfolding PutBefore Once
  paired_or = go (all_or calls.places put_before) (all_or calls.places once)
      (all_or {P = λ w. (v : ℕ) → v < calls.places → InTurn w v} calls.places
      (λ w lt. all_or {P = InTurn w} calls.places (λ v below. in_turn w v)))
    where
      go : ((t : ℕ) → t < calls.places → PutBefore t) ⊎ Pattern calls
          → ((t : ℕ) → t < calls.places → Once t) ⊎ Pattern calls
          → ((w : ℕ) → w < calls.places → (v : ℕ) → v < calls.places → InTurn w v) ⊎ Pattern calls
          → ArePaired calls ⊎ Pattern calls
      go (inr pattern) one two = inr pattern
      go (inl puts) (inr pattern) two = inr pattern
      go (inl puts) (inl onces) (inr pattern) = inr pattern
      go (inl puts) (inl onces) (inl turns) = inl (record {
        put = λ t v lt got. puts t lt v got;
        once = λ t v lt got. onces t lt v got;
        in_turn = λ v w out other ahead before.
            turns w (out_within w other) v (out_within v out) out other ahead before;
      })
