-- A moment for each take that found nothing, and takes for missing values; or else the pattern.
use Rattle.std.proofs.Common.{ℕ, zero, suc, ◌≡◌, ◌<◌, ◌≤◌, ◌+◌, ◌-◌, ◌⊎◌, List, [], ◌∷◌, inl, inr, refl}
use Rattle.std.proofs.Common.{arith, sym, subst, ap, ◌∙◌, leb, eqb, cond}
use Rattle.std.specs.Prelude.{◌&&◌}
use Rattle.std.proofs.lemmas.Bool.{cases_lt, cases_eq, and_parts, leb-true, cond-true, cond-false, eq-eqb, ne_eqb}
use Rattle.windows.specs.Counting.{how_many}
use Rattle.windows.specs.Lists.{IsAmong}
use Rattle.windows.specs.Takes.{AreGiven, IsOverfull}
use Rattle.windows.specs.Moments.{IsCrowded, crowds, high_at, high_at_all}
use Rattle.windows.specs.Calls.{Known, no_call, put_done, put_not, put_open, took, found_nothing, take_not, take_open}
use Rattle.windows.specs.Calls.{Calls, AreCalls, IsHeld, Pattern, not_empty}
use Rattle.windows.proofs.Least.{none_counts}
use Rattle.windows.proofs.Given.{given_or_overfull}
use Rattle.windows.proofs.Apart.{independent, crowded}
use Rattle.windows.proofs.Paired.{IsOut, take_of, out_if_below, all_or}
use Rattle.windows.proofs.Bounds.{low, high, begun_by, open_count, missing, low_few, ends_by_ins}
use Rattle.windows.proofs.Short.{short_pattern, crowded_held, covered_held}

pub found_nothing_or : (known : Known) → (known ≡ found_nothing) ⊎ (known ≡ found_nothing → ⊥)
found_nothing_or no_call = inr (λ is. cc (is))
found_nothing_or put_done = inr (λ is. cc (is))
found_nothing_or put_not = inr (λ is. cc (is))
found_nothing_or put_open = inr (λ is. cc (is))
found_nothing_or (took v) = inr (λ is. cc (is))
found_nothing_or found_nothing = inl refl
found_nothing_or take_not = inr (λ is. cc (is))
found_nothing_or take_open = inr (λ is. cc (is))

-- the queue can have been empty at the place: no value that came out was in, and of missing ones no more than takes
pub record IsClear (calls : Calls) (place : ℕ) : Type 0 where
  pub not_covered : (u : ℕ) → IsOut calls u → calls.end u ≤ place → place < take_of calls u → ⊥
  pub not_crowded : (a : ℕ) → IsCrowded calls.places (missing calls) (low calls) calls.end (begun_by calls) a place → ⊥

-- why it was not: such a value, or too many missing ones
pub data NotClear (calls : Calls) (place : ℕ) : Type 0 where
  covered_by : (u : ℕ) → IsOut calls u → calls.end u ≤ place → place < take_of calls u → NotClear calls place
  crowded_from : (a : ℕ) → IsCrowded calls.places (missing calls) (low calls) calls.end (begun_by calls) a place
      → NotClear calls place

pub not_both_clear : (calls : Calls) (place : ℕ) → NotClear calls place → IsClear calls place → ⊥
not_both_clear calls place (covered_by u out ended later) clear = clear.not_covered u out ended later
not_both_clear calls place (crowded_from a full) clear = clear.not_crowded a full

-- a take that found nothing while the queue was nowhere clear
pub record IsStuck (calls : Calls) : Type 0 where
  pub take : ℕ
  pub within : take < calls.places
  pub empty : calls.known take ≡ found_nothing
  pub none : (place : ℕ) → take ≤ place → place < calls.end take → NotClear calls place

-- a clear place for each of the takes before n that found nothing
pub record Moments (calls : Calls) (n : ℕ) : Type 0 where
  pub moment : ℕ → ℕ
  pub list : List ℕ
  pub since : (e : ℕ) → e < n → calls.known e ≡ found_nothing → e ≤ moment e
  pub before : (e : ℕ) → e < n → calls.known e ≡ found_nothing → moment e < calls.end e
  pub among : (e : ℕ) → e < n → calls.known e ≡ found_nothing → IsAmong (moment e) list
  pub clear : (t : ℕ) → IsAmong t list → IsClear calls t

module _ (calls : Calls) (are : AreCalls calls) where
  abbrev NotCovered : ℕ → ℕ → Type 0
  NotCovered place u = IsOut calls u → calls.end u ≤ place → place < take_of calls u → ⊥

  covered_or : (place u : ℕ) → NotCovered place u ⊎ NotClear calls place
  covered_or place u = go (cases_lt (take_of calls u) calls.places) (cases_lt place (calls.end u))
      (cases_lt place (take_of calls u))
    where
      go : (take_of calls u < calls.places) ⊎ (calls.places ≤ take_of calls u)
          → (place < calls.end u) ⊎ (calls.end u ≤ place)
          → (place < take_of calls u) ⊎ (take_of calls u ≤ place) → NotCovered place u ⊎ NotClear calls place
      go (inr fail) side later = inl (λ out ended before. omega (arith, out.within, fail))
      go (inl out) (inl going) later = inl (λ is ended before. omega (arith, ended, going))
      go (inl out) (inr ended) (inr fail) = inl (λ is over before. omega (arith, before, fail))
      go (inl out) (inr ended) (inl later) =
          inr (covered_by u (out_if_below calls u out) ended later)

  abbrev NotCrowded : ℕ → ℕ → Type 0
  NotCrowded place a = IsCrowded calls.places (missing calls) (low calls) calls.end (begun_by calls) a place → ⊥

  crowded_or : (place a : ℕ) → NotCrowded place a ⊎ NotClear calls place
  crowded_or place a =
      go (cases_lt (begun_by calls place - a) (how_many (crowds (missing calls) (low calls) calls.end a place) calls.places))
    where
      go : (begun_by calls place - a < how_many (crowds (missing calls) (low calls) calls.end a place) calls.places)
          ⊎ (how_many (crowds (missing calls) (low calls) calls.end a place) calls.places ≤ begun_by calls place - a)
          → NotCrowded place a ⊎ NotClear calls place
      go (inl full) = inr (crowded_from a full)
      go (inr fail) = inl (λ full. omega (arith, full, fail))

  -- no value has its low take behind all takes
  high_start : (place a : ℕ) → open_count calls < a → NotCrowded place a
  high_start place a more full =
      let zero_count : how_many (crowds (missing calls) (low calls) calls.end a place) calls.places ≡ 0 =
      none_counts calls.places (crowds (missing calls) (low calls) calls.end a place) (record {
        none = λ v lt pass.
            let both = and_parts (missing calls v) (leb a (low calls v) && leb (calls.end v) place) pass in
            let le : a ≤ low calls v =
            leb-true a (low calls v) (and_parts (leb a (low calls v)) (leb (calls.end v) place) both.1).0 in
            let few : low calls v ≤ open_count calls = low_few calls are v in
            omega (arith, le, few, more);
      }) in
      omega (arith, zero_count, full)

  pub clear_or_not : (place : ℕ) → IsClear calls place ⊎ NotClear calls place
  clear_or_not place = go
      (all_or {P = NotCovered place} calls.places (λ u lt. covered_or place u))
      (all_or {P = NotCrowded place} (suc (open_count calls)) (λ a lt. crowded_or place a))
    where
      any_start : ((a : ℕ) → a < suc (open_count calls) → NotCrowded place a) → (a : ℕ)
          → (a < suc (open_count calls)) ⊎ (suc (open_count calls) ≤ a) → NotCrowded place a
      any_start each a (inl less) = each a less
      any_start each a (inr more) = high_start place a more

      go : ((u : ℕ) → u < calls.places → NotCovered place u) ⊎ NotClear calls place
          → ((a : ℕ) → a < suc (open_count calls) → NotCrowded place a) ⊎ NotClear calls place
          → IsClear calls place ⊎ NotClear calls place
      go (inr held) other = inr held
      go (inl uncovered) (inr held) = inr held
      go (inl uncovered) (inl uncrowded) = inl (record {
        not_covered = λ u out ended later.
            uncovered u (are.sources (take_of calls u) u out.within out.got).0 out ended later;
        not_crowded = λ a. any_start uncrowded a (cases_lt a (suc (open_count calls)));
      })

  pub held_of : (place : ℕ) → NotClear calls place → IsHeld calls place
  held_of place (covered_by u out ended later) = covered_held calls are u place out ended later
  held_of place (crowded_from a full) = crowded_held calls are a place full

  record HasClear (from c : ℕ) : Type 0 where
    at : ℕ
    since : from ≤ at
    before : at < from + c
    clear : IsClear calls at

  clear_within : (from c : ℕ) → HasClear from c ⊎ ((x : ℕ) → from ≤ x → x < from + c → NotClear calls x)
  clear_within from zero = inr (λ x le lt. absurd (omega (arith, le, lt)))
  clear_within from (suc c) = go (clear_or_not from) (clear_within (suc from) c)
    where
      at_or_behind : NotClear calls from → ((x : ℕ) → suc from ≤ x → x < suc from + c → NotClear calls x)
          → (x : ℕ) → from ≤ x → x < from + suc c → (from < x) ⊎ (x ≤ from) → NotClear calls x
      at_or_behind here rest x le lt (inl less) = rest x less (omega (arith, lt))
      at_or_behind here rest x le lt (inr more) =
          let same : from ≡ x = omega (arith, le, more) in subst (NotClear calls) same here

      go : IsClear calls from ⊎ NotClear calls from
          → HasClear (suc from) c ⊎ ((x : ℕ) → suc from ≤ x → x < suc from + c → NotClear calls x)
          → HasClear from (suc c) ⊎ ((x : ℕ) → from ≤ x → x < from + suc c → NotClear calls x)
      go (inl clear) rest = inl (record { at = from; since = omega arith; before = omega arith; clear = clear })
      go (inr held) (inl later) = inl (record {
        at = later.at;
        since = omega (arith, later.since);
        before = omega (arith, later.before);
        clear = later.clear;
      })
      go (inr held) (inr rest) = inr (λ x le lt. at_or_behind held rest x le lt (cases_lt from x))

  pub moments_or : (n : ℕ) → n ≤ calls.places → Moments calls n ⊎ IsStuck calls
  moments_or zero le = inl (record {
    moment = λ e. 0;
    list = [];
    since = λ e lt is. absurd (omega (arith, lt));
    before = λ e lt is. absurd (omega (arith, lt));
    among = λ e lt is. absurd (omega (arith, lt));
    clear = λ t among. absurd among;
  })
  moments_or (suc n) le = go (moments_or n (omega (arith, le))) (found_nothing_or (calls.known n))
      (clear_within n (calls.end n - n))
    where
      after : n < calls.end n
      after = are.after n le

      skipped : Moments calls n → (calls.known n ≡ found_nothing → ⊥) → Moments calls (suc n)
      skipped old differ = record {
        moment = old.moment;
        list = old.list;
        since = λ e lt is. old.since e (earlier e lt is) is;
        before = λ e lt is. old.before e (earlier e lt is) is;
        among = λ e lt is. old.among e (earlier e lt is) is;
        clear = old.clear;
      }
        where
          earlier : (e : ℕ) → e < suc n → calls.known e ≡ found_nothing → e < n
          earlier e lt is = by (cases_lt e n)
            where
              by : (e < n) ⊎ (n ≤ e) → e < n
              by (inl less) = less
              by (inr more) = let same : n ≡ e = omega (arith, lt, more) in absurd (differ (ap calls.known same ∙ is))

      moment_now : (ℕ → ℕ) → ℕ → ℕ → ℕ
      moment_now old x e = cond (eqb e n) x (old e)

      added : Moments calls n → HasClear n (calls.end n - n) → Moments calls (suc n)
      added old found = record {
        moment = moment_now old.moment found.at;
        list = found.at ∷ old.list;
        since = λ e lt is. since e lt is (cases_eq e n);
        before = λ e lt is. before e lt is (cases_eq e n);
        among = λ e lt is. among e lt is (cases_eq e n);
        clear = clear;
      }
        where
          here : (e : ℕ) → e ≡ n → moment_now old.moment found.at e ≡ found.at
          here e same = cond-true (eqb e n) found.at (old.moment e) (eq-eqb e n same)

          there : (e : ℕ) → (e ≡ n → ⊥) → moment_now old.moment found.at e ≡ old.moment e
          there e differ = cond-false (eqb e n) found.at (old.moment e) (ne_eqb e n differ)

          less : (e : ℕ) → e < suc n → (e ≡ n → ⊥) → e < n
          less e lt differ = omega (arith, lt, differ)

          since : (e : ℕ) → e < suc n → calls.known e ≡ found_nothing → (e ≡ n) ⊎ (e ≡ n → ⊥)
              → e ≤ moment_now old.moment found.at e
          since e lt is (inl same) =
              let now : moment_now old.moment found.at e ≡ found.at = here e same in
              omega (arith, now, found.since, same)
          since e lt is (inr differ) =
              let now : moment_now old.moment found.at e ≡ old.moment e = there e differ in
              let was : e ≤ old.moment e = old.since e (less e lt differ) is in omega (arith, now, was)

          before : (e : ℕ) → e < suc n → calls.known e ≡ found_nothing → (e ≡ n) ⊎ (e ≡ n → ⊥)
              → moment_now old.moment found.at e < calls.end e
          before e lt is (inl same) =
              let now : moment_now old.moment found.at e ≡ found.at = here e same in
              let ends : calls.end e ≡ calls.end n = ap calls.end same in
              omega (arith, now, found.before, ends, after)
          before e lt is (inr differ) =
              let now : moment_now old.moment found.at e ≡ old.moment e = there e differ in
              let was : old.moment e < calls.end e = old.before e (less e lt differ) is in omega (arith, now, was)

          among : (e : ℕ) → e < suc n → calls.known e ≡ found_nothing → (e ≡ n) ⊎ (e ≡ n → ⊥)
              → IsAmong (moment_now old.moment found.at e) (found.at ∷ old.list)
          among e lt is (inl same) = inl (sym (here e same))
          among e lt is (inr differ) = inr (subst (λ (t : ℕ). IsAmong t old.list) (sym (there e differ))
              (old.among e (less e lt differ) is))

          clear : (t : ℕ) → IsAmong t (found.at ∷ old.list) → IsClear calls t
          clear t (inl same) = subst (IsClear calls) same found.clear
          clear t (inr later) = old.clear t later

      go : Moments calls n ⊎ IsStuck calls → (calls.known n ≡ found_nothing) ⊎ (calls.known n ≡ found_nothing → ⊥)
          → HasClear n (calls.end n - n) ⊎ ((x : ℕ) → n ≤ x → x < n + (calls.end n - n) → NotClear calls x)
          → Moments calls (suc n) ⊎ IsStuck calls
      go (inr stuck) side clear = inr stuck
      go (inl old) (inr differ) clear = inl (skipped old differ)
      go (inl old) (inl is) (inl found) = inl (added old found)
      go (inl old) (inl is) (inr held) = inr (record {
        take = n;
        within = le;
        empty = is;
        none = λ place low_place high_place. held place low_place (omega (arith, high_place, after));
      })

  pub stuck_pattern : IsStuck calls → Pattern calls
  stuck_pattern stuck = not_empty stuck.take (record {
    within = stuck.within;
    empty = stuck.empty;
    held = λ place since before. held_of place (stuck.none place since before);
  })

  -- with all those moments takes suffice for the missing values
  pub given_or : (n : ℕ) → (moments : Moments calls n)
      → ((give : ℕ → ℕ) × AreGiven calls.places (missing calls) (low calls)
      (high_at_all (high calls) calls.end (begun_by calls) moments.list) give)
      ⊎ ((a : ℕ) × ((b : ℕ) × IsOverfull calls.places (missing calls) (low calls) (high calls) a b))
  given_or n moments = go (given_or_overfull calls.places (missing calls) (low calls)
      (high_at_all (high calls) calls.end (begun_by calls) moments.list))
    where
      one_crowded : (a b t : ℕ) → IsAmong t moments.list
          → IsOverfull calls.places (missing calls) (low calls) (high calls) a b
          ⊎ IsCrowded calls.places (missing calls) (low calls) calls.end (begun_by calls) a t
          → IsOverfull calls.places (missing calls) (low calls) (high calls) a b
      one_crowded a b t among (inl full) = full
      one_crowded a b t among (inr crowd) = absurd ((moments.clear t among).not_crowded a crowd)

      one_full : (a b : ℕ) → IsOverfull calls.places (missing calls) (low calls) (high calls) a b
          ⊎ ((t : ℕ) × (IsAmong t moments.list
          × IsOverfull calls.places (missing calls) (low calls) (high_at (high calls) calls.end (begun_by calls) t) a b))
          → IsOverfull calls.places (missing calls) (low calls) (high calls) a b
      one_full a b (inl full) = full
      one_full a b (inr (t, (among, full))) = one_crowded a b t among
          (crowded calls.places (missing calls) (low calls) (high calls) calls.end (begun_by calls) t a b
          (ends_by_ins calls are) full)

      go : ((give : ℕ → ℕ) × AreGiven calls.places (missing calls) (low calls)
          (high_at_all (high calls) calls.end (begun_by calls) moments.list) give)
          ⊎ ((a : ℕ) × ((b : ℕ) × IsOverfull calls.places (missing calls) (low calls)
          (high_at_all (high calls) calls.end (begun_by calls) moments.list) a b))
          → ((give : ℕ → ℕ) × AreGiven calls.places (missing calls) (low calls)
          (high_at_all (high calls) calls.end (begun_by calls) moments.list) give)
          ⊎ ((a : ℕ) × ((b : ℕ) × IsOverfull calls.places (missing calls) (low calls) (high calls) a b))
      go (inl given) = inl given
      go (inr (a, (b, full))) = inr (
        a,
        (
          b,
          one_full a b
              (independent calls.places (missing calls) (low calls) (high calls) calls.end (begun_by calls) moments.list a b
              full),
        ),
      )
