-- From where and until where missing values can be taken, and which open takes fit.
use Rattle.std.proofs.Common.{ℕ, suc, ◌≡◌, ◌<◌, ◌≤◌, ◌+◌, ◌-◌, ◌⊎◌, Bool, true, false, inl, inr, refl}
use Rattle.std.proofs.Common.{arith, ltb, leb}
use Rattle.std.specs.Prelude.{◌&&◌, not, if◌then◌else◌}
use Rattle.std.proofs.lemmas.Bool.{cases_lt, and_parts, and_from, ltb-true, lt-ltb, leb-true, le-leb, lt-leb}
use Rattle.std.proofs.lemmas.Bool.{cond-true, cond-false, not-true, ltb-false}
use Rattle.windows.specs.Counting.{how_many}
use Rattle.windows.specs.Windows.{IsLeft}
use Rattle.windows.specs.Takes.{AreSorted, over_by, begun_before}
use Rattle.windows.specs.Moments.{EndsByIns}
use Rattle.windows.specs.Calls.{Known, no_call, put_done, put_not, put_open, took, found_nothing, take_not, take_open}
use Rattle.windows.specs.Calls.{Calls, AreCalls, IsMissing}
use Rattle.windows.proofs.Counts.{at_most, no_more_than}
use Rattle.windows.proofs.Least.{IsLeast, Search, found_least, found_none, search_least}
use Rattle.windows.proofs.Numbers.{nth, IsNth, nth_is, nth_ascend}
use Rattle.windows.proofs.Ranges.{over}
use Rattle.windows.proofs.Paired.{take_of, IsOut, out_if_below, untaken_if_not}

abbrev pub is_done : Known → Bool
is_done no_call = false
is_done put_done = true
is_done put_not = false
is_done put_open = false
is_done (took v) = false
is_done found_nothing = false
is_done take_not = false
is_done take_open = false

pub done_is : (known : Known) → is_done known ≡ true → known ≡ put_done
done_is no_call pass = cc (pass)
done_is put_done pass = refl
done_is put_not pass = cc (pass)
done_is put_open pass = cc (pass)
done_is (took v) pass = cc (pass)
done_is found_nothing pass = cc (pass)
done_is take_not pass = cc (pass)
done_is take_open pass = cc (pass)

abbrev pub is_open : Known → Bool
is_open no_call = false
is_open put_done = false
is_open put_not = false
is_open put_open = false
is_open (took v) = false
is_open found_nothing = false
is_open take_not = false
is_open take_open = true

pub open_is : (known : Known) → is_open known ≡ true → known ≡ take_open
open_is no_call pass = cc (pass)
open_is put_done pass = cc (pass)
open_is put_not pass = cc (pass)
open_is put_open pass = cc (pass)
open_is (took v) pass = cc (pass)
open_is found_nothing pass = cc (pass)
open_is take_not pass = cc (pass)
open_is take_open pass = refl

-- where the value can be taken from on: its put has begun, and the values that were put before have been taken
pub record HasRelease (calls : Calls) (v : ℕ) : Type 0 where
  pub at : ℕ
  pub own : v ≤ at
  pub each : (u : ℕ) → IsOut calls u → u < calls.places → calls.end u < v → take_of calls u ≤ at
  pub how : (at ≡ v) ⊎ ((u : ℕ) × (IsOut calls u × ((calls.end u < v) × (take_of calls u ≡ at))))

-- until where: the end of the first take of a value that was put behind it, or behind all
pub record HasLimit (calls : Calls) (v : ℕ) : Type 0 where
  pub at : ℕ
  pub each : (w : ℕ) → IsOut calls w → w < calls.places → calls.end v < w → at ≤ calls.end (take_of calls w)
  pub how : (at ≡ suc calls.places)
      ⊎ ((w : ℕ) × (IsOut calls w × ((calls.end v < w) × (calls.end (take_of calls w) ≡ at))))

-- the values that came out, and whose put was over when that of v began
abbrev put_ahead : Calls → ℕ → ℕ → Bool
put_ahead calls v u = ltb (take_of calls u) calls.places && ltb (calls.end u) v

abbrev put_behind : Calls → ℕ → ℕ → Bool
put_behind calls v w = ltb (take_of calls w) calls.places && ltb (calls.end v) w

pub has_release : (calls : Calls) (v : ℕ) → HasRelease calls v
has_release calls v = go (search_least calls.places (put_ahead calls v) (λ u. calls.places - take_of calls u))
  where
    ahead_from : (u : ℕ) → IsOut calls u → calls.end u < v → put_ahead calls v u ≡ true
    ahead_from u out lt = and_from (ltb (take_of calls u) calls.places) (ltb (calls.end u) v)
        (lt-ltb (take_of calls u) calls.places out.within) (lt-ltb (calls.end u) v lt)

    with_first : (u : ℕ) → IsLeast calls.places (put_ahead calls v) (λ w. calls.places - take_of calls w) u
        → IsOut calls u → calls.end u < v → (take_of calls u < v) ⊎ (v ≤ take_of calls u) → HasRelease calls v
    with_first u first out lt (inl less) = record {
      at = v;
      own = omega arith;
      each = λ w is below ahead. let least : calls.places - take_of calls u ≤ calls.places - take_of calls w =
          first.least w below (ahead_from w is ahead) in omega (arith, least, is.within, less);
      how = inl refl;
    }
    with_first u first out lt (inr more) = record {
      at = take_of calls u;
      own = more;
      each = λ w is below ahead. let least : calls.places - take_of calls u ≤ calls.places - take_of calls w =
          first.least w below (ahead_from w is ahead) in omega (arith, least, is.within, out.within);
      how = inr (u, (out, (lt, refl)));
    }

    go : Search calls.places (put_ahead calls v) (λ u. calls.places - take_of calls u) → HasRelease calls v
    go (found_least u first) =
        let both = and_parts (ltb (take_of calls u) calls.places) (ltb (calls.end u) v) first.passes in
        with_first u first (out_if_below calls u (ltb-true (take_of calls u) calls.places both.0))
        (ltb-true (calls.end u) v both.1) (cases_lt (take_of calls u) v)
    go (found_none fail) = record {
      at = v;
      own = omega arith;
      each = λ w is below ahead. absurd (fail.none w below (ahead_from w is ahead));
      how = inl refl;
    }

pub has_limit : (calls : Calls) (v : ℕ) → HasLimit calls v
has_limit calls v = go (search_least calls.places (put_behind calls v) (λ w. calls.end (take_of calls w)))
  where
    behind_from : (w : ℕ) → IsOut calls w → calls.end v < w → put_behind calls v w ≡ true
    behind_from w out lt = and_from (ltb (take_of calls w) calls.places) (ltb (calls.end v) w)
        (lt-ltb (take_of calls w) calls.places out.within) (lt-ltb (calls.end v) w lt)

    go : Search calls.places (put_behind calls v) (λ w. calls.end (take_of calls w)) → HasLimit calls v
    go (found_least w first) =
        let both = and_parts (ltb (take_of calls w) calls.places) (ltb (calls.end v) w) first.passes in
        record {
          at = calls.end (take_of calls w);
          each = λ x is below ahead. first.least x below (behind_from x is ahead);
          how = inr (
            w,
            (
              out_if_below calls w (ltb-true (take_of calls w) calls.places both.0),
              (ltb-true (calls.end v) w both.1, refl),
            ),
          );
        }
    go (found_none fail) = record {
      at = suc calls.places;
      each = λ w is below ahead. absurd (fail.none w below (behind_from w is ahead));
      how = inl refl;
    }

abbrev pub release : Calls → ℕ → ℕ
release calls v = (has_release calls v).at

abbrev pub limit : Calls → ℕ → ℕ
limit calls v = (has_limit calls v).at

-- the open takes, by their number
abbrev pub open_at : Calls → ℕ → Bool
open_at calls t = is_open (calls.known t)

abbrev pub open_count : Calls → ℕ
open_count calls = how_many (open_at calls) calls.places

abbrev pub begin_of : Calls → ℕ → ℕ
begin_of calls k = nth (open_at calls) calls.places k

abbrev pub end_of : Calls → ℕ → ℕ
end_of calls k = calls.end (begin_of calls k)

-- the takes that a missing value may have, and beyond them as many as there are places where it needs none
abbrev pub low : Calls → ℕ → ℕ
low calls v = over_by (open_count calls) (end_of calls) (release calls v - 1)

abbrev pub high : Calls → ℕ → ℕ
high calls v =
    if leb (limit calls v) calls.places
    then begun_before (open_count calls) (begin_of calls) (limit calls v)
    else open_count calls + calls.places

abbrev pub begun_by : Calls → ℕ → ℕ
begun_by calls place = begun_before (open_count calls) (begin_of calls) (suc place)

-- the values that certainly were put, and are not known to have come out
abbrev pub missing : Calls → ℕ → Bool
missing calls v = is_done (calls.known v) && not (ltb (take_of calls v) calls.places)

pub missing_is : (calls : Calls) (v : ℕ) → IsLeft calls.places (missing calls) v → IsMissing calls v
missing_is calls v is_left =
    let both = and_parts (is_done (calls.known v)) (not (ltb (take_of calls v) calls.places)) is_left.is_left in
    record {
      within = is_left.below;
      done = done_is (calls.known v) both.0;
      none = (untaken_if_not calls v
          (ltb-false (take_of calls v) calls.places (not-true (ltb (take_of calls v) calls.places) both.1))).none;
    }

module _ (calls : Calls) (are : AreCalls calls) where
  open_known : (k : ℕ) → k < open_count calls → IsNth (open_at calls) calls.places k (begin_of calls k)
  open_known k lt = nth_is (open_at calls) calls.places k lt

  pub open_take : (k : ℕ) → k < open_count calls
      → (begin_of calls k < calls.places) × (calls.known (begin_of calls k) ≡ take_open)
  open_take k lt = ((open_known k lt).below, open_is (calls.known (begin_of calls k)) (open_known k lt).passes)

  pub sorted : AreSorted (open_count calls) (begin_of calls) (end_of calls)
  sorted = record {
    by_begin = λ i j low high. let lt : begin_of calls i < begin_of calls j =
        nth_ascend (open_at calls) calls.places i j low high in omega (arith, lt);
    by_end = λ i j low high. are.sorted (begin_of calls i) (begin_of calls j)
        (nth_ascend (open_at calls) calls.places i j low high) (open_take j high).0
        (open_take i (omega (arith, low, high))).1 (open_take j high).1;
  }

  -- a take from the low one on ends no earlier than the value is released
  pub not_early : (v k : ℕ) → k < open_count calls → low calls v ≤ k → release calls v ≤ end_of calls k
  not_early v k lt le = go (cases_lt (release calls v - 1) (end_of calls k))
    where
      go : (release calls v - 1 < end_of calls k) ⊎ (end_of calls k ≤ release calls v - 1)
          → release calls v ≤ end_of calls k
      go (inl later) = omega (arith, later)
      go (inr over_then) =
          absurd (let below : k < low calls v =
          (over (open_count calls) (begin_of calls) (end_of calls) (release calls v - 1) k sorted lt).0 over_then in
          omega (arith, below, le))

  -- and one below it before that
  pub is_early : (v k : ℕ) → k < open_count calls → k < low calls v → end_of calls k < release calls v
  is_early v k lt below =
      let le : end_of calls k ≤ release calls v - 1 =
      (over (open_count calls) (begin_of calls) (end_of calls) (release calls v - 1) k sorted lt).1 below in
      let after : begin_of calls k < end_of calls k = are.after (begin_of calls k) (open_take k lt).0 in
      omega (arith, le, after)

  pub low_few : (v : ℕ) → low calls v ≤ open_count calls
  low_few v = no_more_than (λ k. leb (end_of calls k) (release calls v - 1)) (open_count calls)

  pub begun_few : (place : ℕ) → begun_before (open_count calls) (begin_of calls) place ≤ open_count calls
  begun_few place = no_more_than (λ k. ltb (begin_of calls k) place) (open_count calls)

  begun_grows : (a b : ℕ) → a ≤ b → begun_before (open_count calls) (begin_of calls) a
      ≤ begun_before (open_count calls) (begin_of calls) b
  begun_grows a b le =
      at_most (λ k. ltb (begin_of calls k) a) (λ k. ltb (begin_of calls k) b) (open_count calls)
      (λ k lt pass. let less : begin_of calls k < a = ltb-true (begin_of calls k) a pass in
      lt-ltb (begin_of calls k) b (omega (arith, less, le)))

  -- a value without a limit, and one that has one
  pub high_free : (v : ℕ) → calls.places < limit calls v → high calls v ≡ open_count calls + calls.places
  high_free v lt =
      cond-false (leb (limit calls v) calls.places) (begun_before (open_count calls) (begin_of calls) (limit calls v))
      (open_count calls + calls.places) (lt-leb (limit calls v) calls.places lt)

  pub high_bound : (v : ℕ) → limit calls v ≤ calls.places
      → high calls v ≡ begun_before (open_count calls) (begin_of calls) (limit calls v)
  high_bound v le =
      cond-true (leb (limit calls v) calls.places) (begun_before (open_count calls) (begin_of calls) (limit calls v))
      (open_count calls + calls.places) (le-leb (limit calls v) calls.places le)

  high_most : (v : ℕ) → high calls v ≤ open_count calls + calls.places
  high_most v = go (cases_lt calls.places (limit calls v))
    where
      go : (calls.places < limit calls v) ⊎ (limit calls v ≤ calls.places)
          → high calls v ≤ open_count calls + calls.places
      go (inl free) = let is : high calls v ≡ open_count calls + calls.places = high_free v free in omega (arith, is)
      go (inr bound) =
          let is : high calls v ≡ begun_before (open_count calls) (begin_of calls) (limit calls v) = high_bound v bound in
          let few : begun_before (open_count calls) (begin_of calls) (limit calls v) ≤ open_count calls =
          begun_few (limit calls v) in omega (arith, is, few)

  limits_ascend : (v w : ℕ) → calls.end v ≤ calls.end w → limit calls v ≤ limit calls w
  limits_ascend v w le = go (has_limit calls w).how
    where
      most : (how : (limit calls v ≡ suc calls.places)
          ⊎ ((x : ℕ) × (IsOut calls x × ((calls.end v < x) × (calls.end (take_of calls x) ≡ limit calls v)))))
          → limit calls v ≤ suc calls.places
      most (inl is) = omega (arith, is)
      most (inr (x, (out, (lt, is)))) =
          let within : calls.end (take_of calls x) ≤ calls.places = are.within (take_of calls x) out.within in
          omega (arith, is, within)

      go : (limit calls w ≡ suc calls.places)
          ⊎ ((x : ℕ) × (IsOut calls x × ((calls.end w < x) × (calls.end (take_of calls x) ≡ limit calls w))))
          → limit calls v ≤ limit calls w
      go (inl is) = let le_most : limit calls v ≤ suc calls.places = most (has_limit calls v).how in
          omega (arith, is, le_most)
      go (inr (x, (out, (lt, is)))) =
          let first : limit calls v ≤ calls.end (take_of calls x) =
          (has_limit calls v).each x out (are.sources (take_of calls x) x out.within out.got).0
          (omega (arith, le, lt)) in
          omega (arith, is, first)

  pub highs_ascend : (v w : ℕ) → calls.end v ≤ calls.end w → high calls v ≤ high calls w
  highs_ascend v w le = go (cases_lt calls.places (limit calls w))
    where
      limits : limit calls v ≤ limit calls w
      limits = limits_ascend v w le

      go : (calls.places < limit calls w) ⊎ (limit calls w ≤ calls.places) → high calls v ≤ high calls w
      go (inl free) =
          let is : high calls w ≡ open_count calls + calls.places = high_free w free in
          let most : high calls v ≤ open_count calls + calls.places = high_most v in
          omega (arith, is, most)
      go (inr bound) =
          let is : high calls w ≡ begun_before (open_count calls) (begin_of calls) (limit calls w) =
          high_bound w bound in
          let other : high calls v ≡ begun_before (open_count calls) (begin_of calls) (limit calls v) =
          high_bound v (omega (arith, bound, limits)) in
          let grows : begun_before (open_count calls) (begin_of calls) (limit calls v)
          ≤ begun_before (open_count calls) (begin_of calls) (limit calls w) =
          begun_grows (limit calls v) (limit calls w) limits in
          omega (arith, is, other, grows)

  pub ends_by_ins : EndsByIns calls.places (missing calls) (high calls) calls.end
  ends_by_ins = record { ends = λ v w left_v left_w lt. highs_ascend v w (omega (arith, lt)) }

  releases_ascend : (v w : ℕ) → calls.end v < w → v < calls.places → release calls v ≤ release calls w
  releases_ascend v w lt below = go (has_release calls v).how
    where
      after : v < calls.end v
      after = are.after v below

      go : (release calls v ≡ v)
          ⊎ ((u : ℕ) × (IsOut calls u × ((calls.end u < v) × (take_of calls u ≡ release calls v))))
          → release calls v ≤ release calls w
      go (inl is) = let own : w ≤ release calls w = (has_release calls w).own in omega (arith, is, own, lt, after)
      go (inr (u, (out, (less, is)))) =
          let each : take_of calls u ≤ release calls w =
          (has_release calls w).each u out (are.sources (take_of calls u) u out.within out.got).0
          (omega (arith, less, lt, after)) in
          omega (arith, is, each)

  pub lows_ascend : (v w : ℕ) → calls.end v < w → v < calls.places → low calls v ≤ low calls w
  lows_ascend v w lt below =
      let releases : release calls v ≤ release calls w = releases_ascend v w lt below in
      at_most (λ k. leb (end_of calls k) (release calls v - 1)) (λ k. leb (end_of calls k) (release calls w - 1))
      (open_count calls)
      (λ k less pass. let le : end_of calls k ≤ release calls v - 1 =
      leb-true (end_of calls k) (release calls v - 1) pass in
      le-leb (end_of calls k) (release calls w - 1) (omega (arith, le, releases)))
