-- Takes for values that may each have one of a range of them, given from the first take on: of the values whose range has
-- begun, to that whose range ends first.
use Rattle.std.proofs.Common.{ℕ, zero, suc, ◌≡◌, ◌<◌, ◌≤◌, ◌+◌, ◌-◌, ◌⊎◌, Bool, true, inl, inr, arith, sym}
use Rattle.std.proofs.Common.{ap, ◌∙◌, leb, eqb, cond}
use Rattle.std.specs.Prelude.{◌&&◌, max}
use Rattle.std.proofs.lemmas.Bool.{cases_lt, cases_eq, and_parts, and_from, and_left, leb-true, le-leb, eq-eqb, ne_eqb}
use Rattle.std.proofs.lemmas.Bool.{cond-true, cond-false}
use Rattle.windows.specs.Counting.{how_many}
use Rattle.windows.specs.Windows.{IsLeft}
use Rattle.windows.specs.Takes.{AreGiven, IsOverfull, lies_within}
use Rattle.windows.proofs.Counts.{at_most, fewer, some_passes}
use Rattle.windows.proofs.Least.{IsLeast, HasNone, Search, found_least, found_none, search_least}
use Rattle.windows.proofs.Lines.{all_but, but_left, but_not, but_from}

module _ (n : ℕ) (low high : ℕ → ℕ) where
  -- the value is left, and its takes from s on lie within the range
  abbrev counted : (ℕ → Bool) → ℕ → ℕ → ℕ → ℕ → Bool
  counted left s a b v = left v && (leb a (max (low v) s) && leb (high v) b)

  record IsCounted (left : ℕ → Bool) (s a b v : ℕ) : Type 0 where
    is_left : left v ≡ true
    from : a ≤ max (low v) s
    to : high v ≤ b

  parts : (left : ℕ → Bool) (s a b v : ℕ) → counted left s a b v ≡ true → IsCounted left s a b v
  parts left s a b v pass =
      let both = and_parts (left v) (leb a (max (low v) s) && leb (high v) b) pass in
      let ends = and_parts (leb a (max (low v) s)) (leb (high v) b) both.1 in
      record { is_left = both.0; from = leb-true a (max (low v) s) ends.0; to = leb-true (high v) b ends.1 }

  whole : (left : ℕ → Bool) (s a b v : ℕ) → IsCounted left s a b v → counted left s a b v ≡ true
  whole left s a b v is =
      and_from (left v) (leb a (max (low v) s) && leb (high v) b) is.is_left
      (and_from (leb a (max (low v) s)) (leb (high v) b) (le-leb a (max (low v) s) is.from) (le-leb (high v) b is.to))

  record GivenSince (left : ℕ → Bool) (s : ℕ) : Type 0 where
    give : ℕ → ℕ
    given : AreGiven n left low high give
    late : (v : ℕ) → IsLeft n left v → s ≤ give v

  record OverfullSince (left : ℕ → Bool) (s : ℕ) : Type 0 where
    from : ℕ
    to : ℕ
    late : s ≤ from
    more : to - from < how_many (counted left s from to) n

  -- a value that has no take from s on
  overfull_at : (left : ℕ → Bool) (s v : ℕ) → IsLeft n left v → high v ≤ s → OverfullSince left s
  overfull_at left s v is_left le = record {
    from = s;
    to = s;
    late = omega arith;
    more = let some : 0 < how_many (counted left s s s) n =
        some_passes (counted left s s s) n v is_left.below
        (whole left s s s v (record { is_left = is_left.is_left; from = omega arith; to = le })) in omega (arith, some);
  }

  -- the values whose range has begun by s
  abbrev begun : (ℕ → Bool) → ℕ → ℕ → Bool
  begun left s v = left v && leb (low v) s

  -- nobody takes the take s
  given_later : (left : ℕ → Bool) (s : ℕ) → GivenSince left (suc s) → GivenSince left s
  given_later left s is = record {
    give = is.give;
    given = is.given;
    late = λ v is_left. let le : suc s ≤ is.give v = is.late v is_left in omega (arith, le);
  }

  overfull_later : (left : ℕ → Bool) (s : ℕ) → HasNone n (begun left s) → OverfullSince left (suc s)
      → OverfullSince left s
  overfull_later left s fail is = record {
    from = is.from;
    to = is.to;
    late = omega (arith, is.late);
    more = let le : how_many (counted left (suc s) is.from is.to) n ≤ how_many (counted left s is.from is.to) n =
        at_most (counted left (suc s) is.from is.to) (counted left s is.from is.to) n so in omega (arith, le, is.more);
  }
    where
      from_later : (v : ℕ) → v < n → IsCounted left (suc s) is.from is.to v → (s < low v) ⊎ (low v ≤ s)
          → IsCounted left s is.from is.to v
      from_later v lt counts (inl after) = record {
        is_left = counts.is_left;
        from = omega (arith, counts.from, after);
        to = counts.to;
      }
      from_later v lt counts (inr before) =
          absurd (fail.none v lt (and_from (left v) (leb (low v) s) counts.is_left (le-leb (low v) s before)))

      so : (v : ℕ) → v < n → counted left (suc s) is.from is.to v ≡ true → counted left s is.from is.to v ≡ true
      so v lt pass = whole left s is.from is.to v
          (from_later v lt (parts left (suc s) is.from is.to v pass) (cases_lt s (low v)))

  -- the value c takes the take s: its range ends first of those that have begun by s
  module _ (left : ℕ → Bool) (s c : ℕ) (chosen : IsLeast n (begun left s) high c) (fits : s < high c) where
    chosen_left : left c ≡ true
    chosen_left = (and_parts (left c) (leb (low c) s) chosen.passes).0

    chosen_begun : low c ≤ s
    chosen_begun = leb-true (low c) s (and_parts (left c) (leb (low c) s) chosen.passes).1

    rest_left : (v : ℕ) → IsLeft n left v → (v ≡ c → ⊥) → IsLeft n (all_but left c) v
    rest_left v is_left differ =
        record { below = is_left.below; is_left = but_from left c v is_left.is_left differ }

    module _ (later : GivenSince (all_but left c) (suc s)) where
      abbrev give_now : ℕ → ℕ
      give_now v = cond (eqb v c) s (later.give v)

      now_chosen : (v : ℕ) → v ≡ c → give_now v ≡ s
      now_chosen v same = cond-true (eqb v c) s (later.give v) (eq-eqb v c same)

      now_other : (v : ℕ) → (v ≡ c → ⊥) → give_now v ≡ later.give v
      now_other v differ = cond-false (eqb v c) s (later.give v) (ne_eqb v c differ)

      now_late : (v : ℕ) → IsLeft n left v → (v ≡ c) ⊎ (v ≡ c → ⊥) → s ≤ give_now v
      now_late v is_left (inl same) = let now : give_now v ≡ s = now_chosen v same in omega (arith, now)
      now_late v is_left (inr differ) =
          let now : give_now v ≡ later.give v = now_other v differ in
          let le : suc s ≤ later.give v = later.late v (rest_left v is_left differ) in
          omega (arith, now, le)

      now_since : (v : ℕ) → IsLeft n left v → (v ≡ c) ⊎ (v ≡ c → ⊥) → low v ≤ give_now v
      now_since v is_left (inl same) =
          let now : give_now v ≡ s = now_chosen v same in
          let lows : low v ≡ low c = ap low same in
          let le : low c ≤ s = chosen_begun in omega (arith, now, lows, le)
      now_since v is_left (inr differ) =
          let now : give_now v ≡ later.give v = now_other v differ in
          let le : low v ≤ later.give v = later.given.since v (rest_left v is_left differ) in
          omega (arith, now, le)

      now_before : (v : ℕ) → IsLeft n left v → (v ≡ c) ⊎ (v ≡ c → ⊥) → give_now v < high v
      now_before v is_left (inl same) =
          let now : give_now v ≡ s = now_chosen v same in
          let highs : high v ≡ high c = ap high same in
          omega (arith, now, highs, fits)
      now_before v is_left (inr differ) =
          let now : give_now v ≡ later.give v = now_other v differ in
          let lt : later.give v < high v = later.given.before v (rest_left v is_left differ) in
          omega (arith, now, lt)

      now_different : (v w : ℕ) → IsLeft n left v → IsLeft n left w → give_now v ≡ give_now w
          → (v ≡ c) ⊎ (v ≡ c → ⊥) → (w ≡ c) ⊎ (w ≡ c → ⊥) → v ≡ w
      now_different v w left_v left_w same (inl first) (inl second) = first ∙ sym second
      now_different v w left_v left_w same (inl first) (inr other) =
          absurd (let one : give_now v ≡ s = now_chosen v first in
          let two : give_now w ≡ later.give w = now_other w other in
          let le : suc s ≤ later.give w = later.late w (rest_left w left_w other) in
          omega (arith, one, two, le, same))
      now_different v w left_v left_w same (inr other) (inl second) =
          absurd (let one : give_now w ≡ s = now_chosen w second in
          let two : give_now v ≡ later.give v = now_other v other in
          let le : suc s ≤ later.give v = later.late v (rest_left v left_v other) in
          omega (arith, one, two, le, same))
      now_different v w left_v left_w same (inr other_v) (inr other_w) =
          later.given.different v w (rest_left v left_v other_v) (rest_left w left_w other_w)
          (sym (now_other v other_v) ∙ same ∙ now_other w other_w)

      now_in_turn : (v w : ℕ) → IsLeft n left v → IsLeft n left w → v < w → low v ≤ low w → high v ≤ high w
          → (v ≡ c) ⊎ (v ≡ c → ⊥) → (w ≡ c) ⊎ (w ≡ c → ⊥) → give_now v < give_now w
      now_in_turn v w left_v left_w lt lows highs (inl first) (inl second) = absurd (omega (arith, lt, first, second))
      now_in_turn v w left_v left_w lt lows highs (inl first) (inr other) =
          let one : give_now v ≡ s = now_chosen v first in
          let two : give_now w ≡ later.give w = now_other w other in
          let le : suc s ≤ later.give w = later.late w (rest_left w left_w other) in
          omega (arith, one, two, le)
      now_in_turn v w left_v left_w lt lows highs (inr other) (inl second) =
          absurd (let low_c : low w ≡ low c = ap low second in
          let high_c : high w ≡ high c = ap high second in
          let le : low c ≤ s = chosen_begun in
          let begun_v : low v ≤ s = omega (arith, lows, low_c, le) in
          let less : high c < high v = chosen.first v (omega (arith, lt, second))
          (and_from (left v) (leb (low v) s) left_v.is_left (le-leb (low v) s begun_v)) in
          omega (arith, less, highs, high_c))
      now_in_turn v w left_v left_w lt lows highs (inr other_v) (inr other_w) =
          let one : give_now v ≡ later.give v = now_other v other_v in
          let two : give_now w ≡ later.give w = now_other w other_w in
          let less : later.give v < later.give w = later.given.in_turn v w (rest_left v left_v other_v)
          (rest_left w left_w other_w) lt lows highs in
          omega (arith, one, two, less)

      given_now : GivenSince left s
      given_now = record {
        give = give_now;
        given = record {
          since = λ v is_left. now_since v is_left (cases_eq v c);
          before = λ v is_left. now_before v is_left (cases_eq v c);
          different = λ v w left_v left_w same. now_different v w left_v left_w same (cases_eq v c) (cases_eq w c);
          in_turn = λ v w left_v left_w lt lows highs.
              now_in_turn v w left_v left_w lt lows highs (cases_eq v c) (cases_eq w c);
        };
        late = λ v is_left. now_late v is_left (cases_eq v c);
      }

    module _ (later : OverfullSince (all_but left c) (suc s)) where
      -- no value but the chosen one has a range that begins by s and ends by `to`, where its own ends later
      still_counted : (v : ℕ) → v < n → IsCounted (all_but left c) (suc s) later.from later.to v
          → (later.to < high c) ⊎ (suc s < later.from)
          → (s < low v) ⊎ (low v ≤ s) → IsCounted left s later.from later.to v
      still_counted v lt counts side (inl after) = record {
        is_left = but_left left c v counts.is_left;
        from = omega (arith, counts.from, after);
        to = counts.to;
      }
      still_counted v lt counts (inr late) (inr before) =
          absurd (let le : later.from ≤ max (low v) (suc s) = counts.from in omega (arith, le, late, before))
      still_counted v lt counts (inl ends) (inr before) =
          absurd (let least : high c ≤ high v = chosen.least v lt
          (and_from (left v) (leb (low v) s) (but_left left c v counts.is_left) (le-leb (low v) s before)) in
          let le : high v ≤ later.to = counts.to in
          omega (arith, ends, least, le))

      still_overfull : (later.to < high c) ⊎ (suc s < later.from) → OverfullSince left s
      still_overfull side = record {
        from = later.from;
        to = later.to;
        late = omega (arith, later.late);
        more = let le : how_many (counted (all_but left c) (suc s) later.from later.to) n
            ≤ how_many (counted left s later.from later.to) n =
            at_most (counted (all_but left c) (suc s) later.from later.to) (counted left s later.from later.to) n
            (λ v lt pass. whole left s later.from later.to v
            (still_counted v lt (parts (all_but left c) (suc s) later.from later.to v pass) side (cases_lt s (low v)))) in
            omega (arith, le, later.more);
      }

      more_overfull : high c ≤ later.to → later.from ≤ suc s → OverfullSince left s
      more_overfull ends late = record {
        from = s;
        to = later.to;
        late = omega arith;
        more = let less : how_many (counted (all_but left c) (suc s) later.from later.to) n
            < how_many (counted left s s later.to) n =
            fewer (counted (all_but left c) (suc s) later.from later.to) (counted left s s later.to) n c
            (λ v lt pass. let counts = parts (all_but left c) (suc s) later.from later.to v pass in
            whole left s s later.to v
            (record { is_left = but_left left c v counts.is_left; from = omega arith; to = counts.to }))
            chosen.below
            (and_left (all_but left c c) (leb later.from (max (low c) (suc s)) && leb (high c) later.to) (but_not left c))
            (whole left s s later.to c (record { is_left = chosen_left; from = omega arith; to = ends })) in
            omega (arith, less, later.more, late, later.late);
      }

      overfull_now : (later.to < high c) ⊎ (high c ≤ later.to) → (suc s < later.from) ⊎ (later.from ≤ suc s)
          → OverfullSince left s
      overfull_now (inl ends) side = still_overfull (inl ends)
      overfull_now (inr ends) (inl late) = still_overfull (inr late)
      overfull_now (inr ends) (inr late) = more_overfull ends late

  -- takes from s up to s + k, of which no value may have a later one
  given_since : (k s : ℕ) (left : ℕ → Bool) → ((v : ℕ) → IsLeft n left v → high v ≤ s + k)
      → GivenSince left s ⊎ OverfullSince left s
  given_since zero s left bound = go (search_least n left (λ v. v))
    where
      go : Search n left (λ v. v) → GivenSince left s ⊎ OverfullSince left s
      go (found_none fail) = inl (record {
        give = λ v. s;
        given = record {
          since = λ v is_left. absurd (fail.none v is_left.below is_left.is_left);
          before = λ v is_left. absurd (fail.none v is_left.below is_left.is_left);
          different = λ v w left_v left_w same. absurd (fail.none v left_v.below left_v.is_left);
          in_turn = λ v w left_v left_w lt lows highs. absurd (fail.none v left_v.below left_v.is_left);
        };
        late = λ v is_left. omega arith;
      })
      go (found_least v first) =
          let is_left : IsLeft n left v = record { below = first.below; is_left = first.passes } in
          let le : high v ≤ s + 0 = bound v is_left in
          inr (overfull_at left s v is_left (omega (arith, le)))
  given_since (suc k) s left bound =
      go (search_least n (begun left s) high)
      (given_since k (suc s) left (λ v is_left. let le : high v ≤ s + suc k = bound v is_left in omega (arith, le)))
      (λ c. given_since k (suc s) (all_but left c) (λ v is_left.
      let le : high v ≤ s + suc k = bound v (record { below = is_left.below; is_left = but_left left c v is_left.is_left })
      in omega (arith, le)))
    where
      go : Search n (begun left s) high → GivenSince left (suc s) ⊎ OverfullSince left (suc s)
          → ((c : ℕ) → GivenSince (all_but left c) (suc s) ⊎ OverfullSince (all_but left c) (suc s))
          → GivenSince left s ⊎ OverfullSince left s
      go (found_none fail) (inl given) with_chosen = inl (given_later left s given)
      go (found_none fail) (inr full) with_chosen = inr (overfull_later left s fail full)
      go (found_least c chosen) same with_chosen = chosen_takes (cases_lt s (high c)) (with_chosen c)
        where
          chosen_takes : (s < high c) ⊎ (high c ≤ s)
              → GivenSince (all_but left c) (suc s) ⊎ OverfullSince (all_but left c) (suc s)
              → GivenSince left s ⊎ OverfullSince left s
          chosen_takes (inl fits) (inl later) = inl (given_now left s c chosen fits later)
          chosen_takes (inl fits) (inr later) = inr (overfull_now left s c chosen fits later
              (cases_lt later.to (high c)) (cases_lt (suc s) later.from))
          chosen_takes (inr ends) later = inr (overfull_at left s c
              (record { below = chosen.below; is_left = (and_parts (left c) (leb (low c) s) chosen.passes).0 }) ends)

-- the greatest high
top : ℕ → (ℕ → ℕ) → ℕ
top zero high = 0
top (suc n) high = max (top n high) (high n)

below_top : (n : ℕ) (high : ℕ → ℕ) (v : ℕ) → v < n → high v ≤ top n high
unfolding top
below_top zero high v lt = absurd (omega arith)
below_top (suc n) high v lt = go (cases_lt v n) (λ less. below_top n high v less)
  where
    go : (v < n) ⊎ (n ≤ v) → (v < n → high v ≤ top n high) → high v ≤ top (suc n) high
    go (inl less) again = let le : high v ≤ top n high = again less in omega (arith, le)
    go (inr more) again =
        let same : v ≡ n = omega arith in
        let highs : high v ≡ high n = ap high same in omega (arith, highs)

pub given_or_overfull : (n : ℕ) (left : ℕ → Bool) (low high : ℕ → ℕ)
    → ((give : ℕ → ℕ) × AreGiven n left low high give)
    ⊎ ((from : ℕ) × ((to : ℕ) × IsOverfull n left low high from to))
given_or_overfull n left low high =
    go (given_since n low high (top n high) 0 left
    (λ v is_left. let le : high v ≤ top n high = below_top n high v is_left.below in omega (arith, le)))
  where
    so : (a b v : ℕ) → v < n → counted n low high left 0 a b v ≡ true → lies_within left low high a b v ≡ true
    so a b v lt pass =
        let counts = parts n low high left 0 a b v pass in
        and_from (left v) (leb a (low v) && leb (high v) b) counts.is_left
        (and_from (leb a (low v)) (leb (high v) b) (le-leb a (low v) (omega (arith, counts.from)))
        (le-leb (high v) b counts.to))

    go : GivenSince n low high left 0 ⊎ OverfullSince n low high left 0
        → ((give : ℕ → ℕ) × AreGiven n left low high give)
        ⊎ ((from : ℕ) × ((to : ℕ) × IsOverfull n left low high from to))
    go (inl given) = inl (given.give, given.given)
    go (inr full) = inr (
      full.from,
      (
        full.to,
        let le : how_many (counted n low high left 0 full.from full.to) n
            ≤ how_many (lies_within left low high full.from full.to) n =
            at_most (counted n low high left 0 full.from full.to) (lies_within left low high full.from full.to) n
            (so full.from full.to) in
            omega (arith, le, full.more),
      ),
    )
