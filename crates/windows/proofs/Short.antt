-- Where takes do not suffice, values were passed over, or the queue held something.
use Rattle.std.proofs.Common.{ℕ, zero, suc, ◌≡◌, ◌<◌, ◌≤◌, ◌+◌, ◌-◌, ◌⊎◌, Bool, true, length, inl, inr}
use Rattle.std.proofs.Common.{arith, sym, subst, ap, leb, Option, Some, None}
use Rattle.std.specs.Prelude.{◌&&◌}
use Rattle.std.proofs.lemmas.Bool.{cases_lt, and_parts, leb-true}
use Rattle.windows.specs.Counting.{how_many}
use Rattle.windows.specs.Lists.{IsAmong}
use Rattle.windows.specs.Windows.{IsLeft}
use Rattle.windows.specs.Takes.{IsOverfull, lies_within, begun_before}
use Rattle.windows.specs.Moments.{IsCrowded, crowds}
use Rattle.windows.specs.Calls.{take_open, Calls, AreCalls, Lack, late, few, IsPutOf, IsInAt, AreInSince, WasOver}
use Rattle.windows.specs.Calls.{Lacks, IsHeld, Pattern, passed_over}
use Rattle.windows.proofs.Counts.{no_more_than}
use Rattle.windows.proofs.Least.{IsLeast, Search, found_least, found_none, search_least, none_counts}
use Rattle.windows.proofs.Apart.{LiesWithin, within_parts}
use Rattle.windows.proofs.Numbers.{all_of, of_all, all_different, length_all, nth_rank, grows_by}
use Rattle.windows.proofs.Numbers.{from_on, length_from, among_from}
use Rattle.windows.proofs.Ranges.{begun}
use Rattle.windows.proofs.Paired.{IsOut, take_of}
use Rattle.windows.proofs.Bounds.{has_release, has_limit, release, limit, low, high, open_at, is_open}
use Rattle.windows.proofs.Bounds.{open_count, begin_of, end_of, begun_by, missing, missing_is, sorted, is_early, low_few}
use Rattle.windows.proofs.Bounds.{high_free, high_bound}

-- the values that pass are more than the takes from a on and before b, which are all that can have taken one
pub record FewLack (calls : Calls) (p : ℕ → Bool) (bound : ℕ) : Type 0 where
  pub lack : Lack
  pub lacks : Lacks calls bound lack
  pub those : (v : ℕ) → IsPutOf lack v → (v < calls.places) × (p v ≡ true)

module _ (calls : Calls) (are : AreCalls calls) where
  module _ (p : ℕ → Bool) (a b bound : ℕ)
      (miss : (v : ℕ) → v < calls.places → p v ≡ true → IsLeft calls.places (missing calls) v × (a ≤ low calls v))
      (many : b - a < how_many p calls.places)
      (begin_few : (k : ℕ) → k < open_count calls → begin_of calls k < bound → k < b) where
    since_of : ℕ → Option ℕ
    since_of zero = None
    since_of (suc x) = Some (end_of calls x)

    ahead_of : (v : ℕ) → (release calls v ≡ v)
        ⊎ ((u : ℕ) × (IsOut calls u × ((calls.end u < v) × (take_of calls u ≡ release calls v)))) → ℕ
    ahead_of v (inl is) = 0
    ahead_of v (inr (u, rest)) = u

    -- the end of the take before those is a place at which each of the values was in, or not yet in
    in_at : (v0 : ℕ) → IsLeast calls.places p (λ v. v) v0 → (x : ℕ) → suc x ≤ a
        → (how : (release calls v0 ≡ v0)
        ⊎ ((u : ℕ) × (IsOut calls u × ((calls.end u < v0) × (take_of calls u ≡ release calls v0)))))
        → (v : ℕ) → IsAmong v (all_of p calls.places)
        → IsInAt calls (end_of calls x) (ahead_of v0 how) (take_of calls (ahead_of v0 how)) v
    unfolding ahead_of
    in_at v0 first x le how v among = go how
      where
        is : (v < calls.places) × (p v ≡ true)
        is = of_all p calls.places v among

        least : v0 ≤ v
        least = first.least v is.0 is.1

        early : end_of calls x < release calls v0
        early =
            let lows : a ≤ low calls v0 = (miss v0 first.below first.passes).1 in
            let few_takes : low calls v0 ≤ open_count calls = low_few calls are v0 in
            is_early calls are v0 x (omega (arith, le, lows, few_takes)) (omega (arith, le, lows))

        go : (how : (release calls v0 ≡ v0)
            ⊎ ((u : ℕ) × (IsOut calls u × ((calls.end u < v0) × (take_of calls u ≡ release calls v0)))))
            → IsInAt calls (end_of calls x) (ahead_of v0 how) (take_of calls (ahead_of v0 how)) v
        go (inl own) = inl (let lt : end_of calls x < release calls v0 = early in let le0 : v0 ≤ v = least in
            omega (arith, lt, own, le0))
        go (inr (u, (out, (lt, same)))) = inr (
          out.within,
          (
            out.got,
            (
              (let soon : end_of calls x < release calls v0 = early in omega (arith, soon, same)),
              (let le0 : v0 ≤ v = least in omega (arith, lt, le0)),
            ),
          ),
        )

    in_since : (v0 : ℕ) → IsLeast calls.places p (λ v. v) v0
        → (how : (release calls v0 ≡ v0)
        ⊎ ((u : ℕ) × (IsOut calls u × ((calls.end u < v0) × (take_of calls u ≡ release calls v0)))))
        → (x : ℕ) → x ≤ a
        → AreInSince calls (all_of p calls.places) (since_of x) (ahead_of v0 how) (take_of calls (ahead_of v0 how))
    unfolding since_of
    in_since v0 first how zero le = tt
    in_since v0 first how (suc x) le = in_at v0 first x le how

    not_over : (x k : ℕ) → x ≤ open_count calls → k < open_count calls
        → (WasOver calls (since_of x) (begin_of calls k) → ⊥) → x ≤ k
    unfolding since_of
    not_over zero k le lt fail = omega arith
    not_over (suc x) k le lt fail = go (cases_lt k x) (cases_lt x k)
      where
        go : (k < x) ⊎ (x ≤ k) → (x < k) ⊎ (k ≤ x) → suc x ≤ k
        go (inl less) side = absurd (fail ((sorted calls are).by_end k x less (omega (arith, le))))
        go (inr more) (inl less) = less
        go (inr more) (inr same_or) =
            let same : k ≡ x = omega (arith, more, same_or) in
            absurd (fail (let ends : end_of calls k ≡ end_of calls x = ap (end_of calls) same in omega (arith, ends)))

    listed : a ≤ open_count calls → (t : ℕ) → t < calls.places → t < bound → calls.known t ≡ take_open
        → (WasOver calls (since_of a) t → ⊥) → IsAmong t (from_on (begin_of calls) a (b - a))
    listed few_a t lt early known fail =
        let opens : open_at calls t ≡ true = ap is_open known in
        let rank : ℕ = how_many (open_at calls) t in
        let below : rank < open_count calls = grows_by (open_at calls) t calls.places lt opens in
        let same : begin_of calls rank ≡ t = nth_rank (open_at calls) calls.places t lt opens in
        let soon : rank < b = begin_few rank below (omega (arith, same, early)) in
        let since : a ≤ rank = not_over a rank few_a below
        (subst (λ (s : ℕ). WasOver calls (since_of a) s → ⊥) (sym same) fail) in
        subst (λ (s : ℕ). IsAmong s (from_on (begin_of calls) a (b - a))) same
        (among_from (begin_of calls) a (b - a) rank since (omega (arith, soon, since)))

    with_first : (v0 : ℕ) → IsLeast calls.places p (λ v. v) v0 → FewLack calls p bound
    with_first v0 first = record {
      lack = few (all_of p calls.places) (from_on (begin_of calls) a (b - a)) (since_of a)
          (ahead_of v0 (has_release calls v0).how) (take_of calls (ahead_of v0 (has_release calls v0).how));
      lacks = record {
        missing = λ v among. let is : (v < calls.places) × (p v ≡ true) = of_all p calls.places v among in
            missing_is calls v (miss v is.0 is.1).0;
        different = all_different p calls.places;
        in_since = in_since v0 first (has_release calls v0).how a (omega arith);
        listed = listed (let lows : a ≤ low calls v0 = (miss v0 first.below first.passes).1 in
            let few_takes : low calls v0 ≤ open_count calls = low_few calls are v0 in omega (arith, lows, few_takes));
        fewer = let one : length (from_on (begin_of calls) a (b - a)) ≡ b - a =
            length_from (begin_of calls) a (b - a) in
            let other : length (all_of p calls.places) ≡ how_many p calls.places = length_all p calls.places in
            omega (arith, one, other, many);
      };
      those = λ v among. of_all p calls.places v among;
    }

    few_lack : FewLack calls p bound
    few_lack = go (search_least calls.places p (λ v. v))
      where
        go : Search calls.places p (λ v. v) → FewLack calls p bound
        go (found_least v0 first) = with_first v0 first
        go (found_none fail) = absurd (let zero_count : how_many p calls.places ≡ 0 = none_counts calls.places p fail in
            omega (arith, zero_count, many))

  -- where too many missing values lie within a range, they were passed over
  module _ (a b : ℕ) (full : IsOverfull calls.places (missing calls) (low calls) (high calls) a b) where
    abbrev p : ℕ → Bool
    p = lies_within (missing calls) (low calls) (high calls) a b

    within : (v : ℕ) → p v ≡ true → LiesWithin (missing calls) (low calls) (high calls) a b v
    within v pass = within_parts (missing calls) (low calls) (high calls) a b v pass

    bounded : (v : ℕ) → v < calls.places → p v ≡ true → limit calls v ≤ calls.places
    bounded v lt pass = go (cases_lt calls.places (limit calls v))
      where
        go : (calls.places < limit calls v) ⊎ (limit calls v ≤ calls.places) → limit calls v ≤ calls.places
        go (inr le) = le
        go (inl free) =
            absurd (let is : LiesWithin (missing calls) (low calls) (high calls) a b v = within v pass in
            let top : high calls v ≡ open_count calls + calls.places = high_free calls are v free in
            let few_takes : low calls v ≤ open_count calls = low_few calls are v in
            let count : how_many p calls.places ≤ calls.places = no_more_than p calls.places in
            omega (arith, is.since, is.until, top, few_takes, count, full))

    miss : (v : ℕ) → v < calls.places → p v ≡ true → IsLeft calls.places (missing calls) v × (a ≤ low calls v)
    miss v lt pass =
        let is : LiesWithin (missing calls) (low calls) (high calls) a b v = within v pass in
        (record { below = lt; is_left = is.is_left }, is.since)

    with_last : (v : ℕ) → IsLeast calls.places p (λ u. calls.places - calls.end u) v
        → (limit calls v ≡ suc calls.places)
        ⊎ ((w : ℕ) × (IsOut calls w × ((calls.end v < w) × (calls.end (take_of calls w) ≡ limit calls v))))
        → Pattern calls
    with_last v last (inl free) =
        absurd (let le : limit calls v ≤ calls.places = bounded v last.below last.passes in omega (arith, free, le))
    with_last v last (inr (w, (out, (lt, same)))) = passed_over (take_of calls w) w found.lack (record {
      within = out.within;
      got = out.got;
      ahead = λ u is_put. let is : (u < calls.places) × (p u ≡ true) = found.those u is_put in
          let least : calls.places - calls.end v ≤ calls.places - calls.end u = last.least u is.0 is.1 in
          let end_u : calls.end u ≤ calls.places = are.within u is.0 in
          let end_v : calls.end v ≤ calls.places = are.within v last.below in
          omega (arith, least, end_u, end_v, lt);
      lacks = found.lacks;
    })
      where
        begin_few : (k : ℕ) → k < open_count calls → begin_of calls k < calls.end (take_of calls w) → k < b
        begin_few k below early =
            let is : LiesWithin (missing calls) (low calls) (high calls) a b v = within v last.passes in
            let top : high calls v ≡ begun_before (open_count calls) (begin_of calls) (limit calls v) =
            high_bound calls are v (bounded v last.below last.passes) in
            let soon : k < begun_before (open_count calls) (begin_of calls) (limit calls v) =
            (begun (open_count calls) (begin_of calls) (end_of calls) (limit calls v) k (sorted calls are) below).0
            (omega (arith, early, same)) in
            omega (arith, soon, top, is.until)

        found : FewLack calls p (calls.end (take_of calls w))
        found = few_lack p a b (calls.end (take_of calls w)) miss full begin_few

    pub short_pattern : Pattern calls
    short_pattern = go (search_least calls.places p (λ u. calls.places - calls.end u))
      where
        go : Search calls.places p (λ u. calls.places - calls.end u) → Pattern calls
        go (found_least v last) = with_last v last (has_limit calls v).how
        go (found_none fail) = absurd (let zero_count : how_many p calls.places ≡ 0 = none_counts calls.places p fail in
            omega (arith, zero_count, full))

  -- where too many are in by a place, the queue held something there
  pub crowded_held : (a place : ℕ)
      → IsCrowded calls.places (missing calls) (low calls) calls.end (begun_by calls) a place → IsHeld calls place
  crowded_held a place full = record {
    lack = found.lack;
    ended = λ v is_put. (parts v (found.those v is_put).1).2;
    lacks = found.lacks;
  }
    where
      parts : (v : ℕ) → crowds (missing calls) (low calls) calls.end a place v ≡ true
          → (missing calls v ≡ true) × (a ≤ low calls v) × (calls.end v ≤ place)
      parts v pass =
          let both = and_parts (missing calls v) (leb a (low calls v) && leb (calls.end v) place) pass in
          let ends = and_parts (leb a (low calls v)) (leb (calls.end v) place) both.1 in
          (both.0, leb-true a (low calls v) ends.0, leb-true (calls.end v) place ends.1)

      found : FewLack calls (crowds (missing calls) (low calls) calls.end a place) (suc place)
      found = few_lack (crowds (missing calls) (low calls) calls.end a place) a (begun_by calls place) (suc place)
          (λ v lt pass. (record { below = lt; is_left = (parts v pass).0 }, (parts v pass).1)) full
          (λ k below early. (begun (open_count calls) (begin_of calls) (end_of calls) (suc place) k (sorted calls are)
          below).0 early)

  -- and so where a value that came out was in
  pub covered_held : (u place : ℕ) → IsOut calls u → calls.end u ≤ place → place < take_of calls u → IsHeld calls place
  covered_held u place out ended later = record {
    lack = late u (take_of calls u);
    ended = λ v same. let ends : calls.end v ≡ calls.end u = ap calls.end same in omega (arith, ends, ended);
    lacks = record { within = out.within; got = out.got; late = omega (arith, later) };
  }
