-- Moments at which the queue is to be empty do not disturb each other.
use Rattle.std.proofs.Common.{ℕ, suc, ◌≡◌, ◌<◌, ◌≤◌, ◌⊎◌, Bool, true, List, [], ◌∷◌, inl, inr, refl}
use Rattle.std.proofs.Common.{arith, leb}
use Rattle.std.specs.Prelude.{◌&&◌, min, if◌then◌else◌}
use Rattle.std.proofs.lemmas.Bool.{cases_lt, and_parts, and_from, leb-true, le-leb, lt-leb}
use Rattle.std.proofs.lemmas.Bool.{cond-true, cond-false}
use Rattle.windows.specs.Counting.{how_many}
use Rattle.windows.specs.Lists.{IsAmong}
use Rattle.windows.specs.Windows.{IsLeft}
use Rattle.windows.specs.Takes.{IsOverfull, lies_within}
use Rattle.windows.specs.Moments.{high_at, high_at_all, crowds, IsCrowded, EndsByIns}
use Rattle.windows.proofs.Counts.{at_most}
use Rattle.windows.proofs.Least.{HasNone, Search, found_least, found_none, search_least}

-- what lies within a range
pub record LiesWithin (left : ℕ → Bool) (low high : ℕ → ℕ) (from to v : ℕ) : Type 0 where
  pub is_left : left v ≡ true
  pub since : from ≤ low v
  pub until : high v ≤ to

pub within_parts : (left : ℕ → Bool) (low high : ℕ → ℕ) (from to v : ℕ) → lies_within left low high from to v ≡ true
    → LiesWithin left low high from to v
within_parts left low high from to v pass =
    let both = and_parts (left v) (leb from (low v) && leb (high v) to) pass in
    let ends = and_parts (leb from (low v)) (leb (high v) to) both.1 in
    record { is_left = both.0; since = leb-true from (low v) ends.0; until = leb-true (high v) to ends.1 }

pub within_whole : (left : ℕ → Bool) (low high : ℕ → ℕ) (from to v : ℕ) → LiesWithin left low high from to v
    → lies_within left low high from to v ≡ true
within_whole left low high from to v is =
    and_from (left v) (leb from (low v) && leb (high v) to) is.is_left
    (and_from (leb from (low v)) (leb (high v) to) (le-leb from (low v) is.since) (le-leb (high v) to is.until))

-- more values lie within the one range than within the other
pub still_overfull : (n : ℕ) (left : ℕ → Bool) (low high other : ℕ → ℕ) (from to : ℕ)
    → ((v : ℕ) → v < n → LiesWithin left low high from to v → other v ≤ to)
    → IsOverfull n left low high from to → IsOverfull n left low other from to
still_overfull n left low high other from to so full =
    let le : how_many (lies_within left low high from to) n ≤ how_many (lies_within left low other from to) n =
    at_most (lies_within left low high from to) (lies_within left low other from to) n
    (λ v lt pass. let is = within_parts left low high from to v pass in
    within_whole left low other from to v (record { is_left = is.is_left; since = is.since; until = so v lt is })) in
    omega (arith, le, full)

-- a value's range where it is in by a moment, and where it is not
pub if_in : (x y z moment : ℕ) → z ≤ moment → (if leb z moment then x else y) ≡ x
if_in x y z moment le = cond-true (leb z moment) x y (le-leb z moment le)

pub if_not_in : (x y z moment : ℕ) → moment < z → (if leb z moment then x else y) ≡ y
if_not_in x y z moment lt = cond-false (leb z moment) x y (lt-leb z moment lt)

module _ (high in_by begun : ℕ → ℕ) (to : ℕ) where
  -- of the moments, the last of those by which no more than `to` takes begun: a value whose range ends by `to` with all
  -- moments is in by that one, or its range ends by `to` without any
  record LastOf (moments : List ℕ) : Type 0 where
    moment : ℕ
    among : IsAmong moment moments
    few : begun moment ≤ to
    enough : (v : ℕ) → high_at_all high in_by begun moments v ≤ to → (in_by v ≤ moment) ⊎ (high v ≤ to)

  record NoneOf (moments : List ℕ) : Type 0 where
    enough : (v : ℕ) → high_at_all high in_by begun moments v ≤ to → high v ≤ to

  in_or_not : (moment v : ℕ) → (in_by v ≤ moment) ⊎ (moment < in_by v)
  in_or_not moment v = turned (cases_lt moment (in_by v))
    where
      turned : (moment < in_by v) ⊎ (in_by v ≤ moment) → (in_by v ≤ moment) ⊎ (moment < in_by v)
      turned (inl later) = inr later
      turned (inr now) = inl now

  rest_le : (moment : ℕ) (rest : List ℕ) (v : ℕ) → (in_by v ≤ moment) ⊎ (moment < in_by v)
      → (in_by v ≤ moment → to < begun moment)
      → high_at_all high in_by begun (moment ∷ rest) v ≤ to → high_at_all high in_by begun rest v ≤ to
  rest_le moment rest v (inl in_now) so le =
      let is : high_at_all high in_by begun (moment ∷ rest) v ≡ min (high_at_all high in_by begun rest v) (begun moment) =
      if_in (min (high_at_all high in_by begun rest v) (begun moment)) (high_at_all high in_by begun rest v) (in_by v)
      moment in_now in
      let more : to < begun moment = so in_now in
      omega (arith, is, more, le)
  rest_le moment rest v (inr later) so le =
      let is : high_at_all high in_by begun (moment ∷ rest) v ≡ high_at_all high in_by begun rest v =
      if_not_in (min (high_at_all high in_by begun rest v) (begun moment)) (high_at_all high in_by begun rest v) (in_by v)
      moment later in
      omega (arith, is, le)

  last_of : (moments : List ℕ) → LastOf moments ⊎ NoneOf moments
  last_of [] = inr (record { enough = λ v le. le })
  last_of (moment ∷ rest) = go (cases_lt to (begun moment)) (last_of rest)
    where
      in_or_rest : (v : ℕ) → high_at_all high in_by begun (moment ∷ rest) v ≤ to
          → (in_by v ≤ moment) ⊎ (high_at_all high in_by begun rest v ≤ to)
      in_or_rest v le = by (cases_lt moment (in_by v))
        where
          by : (moment < in_by v) ⊎ (in_by v ≤ moment)
              → (in_by v ≤ moment) ⊎ (high_at_all high in_by begun rest v ≤ to)
          by (inl later) = inr (rest_le moment rest v (inr later) (λ now. absurd (omega (arith, now, later))) le)
          by (inr now) = inl now

      here : begun moment ≤ to → NoneOf rest → LastOf (moment ∷ rest)
      here few fail = record {
        moment = moment;
        among = inl refl;
        few = few;
        enough = λ v le. by v (in_or_rest v le);
      }
        where
          by : (v : ℕ) → (in_by v ≤ moment) ⊎ (high_at_all high in_by begun rest v ≤ to)
              → (in_by v ≤ moment) ⊎ (high v ≤ to)
          by v (inl now) = inl now
          by v (inr le) = inr (fail.enough v le)

      greater : begun moment ≤ to → (last : LastOf rest) → (moment < last.moment) ⊎ (last.moment ≤ moment)
          → LastOf (moment ∷ rest)
      greater few last (inl less) = record {
        moment = last.moment;
        among = inr last.among;
        few = last.few;
        enough = λ v le. by v (in_or_rest v le);
      }
        where
          by : (v : ℕ) → (in_by v ≤ moment) ⊎ (high_at_all high in_by begun rest v ≤ to)
              → (in_by v ≤ last.moment) ⊎ (high v ≤ to)
          by v (inl now) = inl (omega (arith, now, less))
          by v (inr le) = last.enough v le
      greater few last (inr more) = record {
        moment = moment;
        among = inl refl;
        few = few;
        enough = λ v le. by v (in_or_rest v le);
      }
        where
          after : (v : ℕ) → (in_by v ≤ last.moment) ⊎ (high v ≤ to) → (in_by v ≤ moment) ⊎ (high v ≤ to)
          after v (inl now) = inl (omega (arith, now, more))
          after v (inr le) = inr le

          by : (v : ℕ) → (in_by v ≤ moment) ⊎ (high_at_all high in_by begun rest v ≤ to)
              → (in_by v ≤ moment) ⊎ (high v ≤ to)
          by v (inl now) = inl now
          by v (inr le) = after v (last.enough v le)

      go : (to < begun moment) ⊎ (begun moment ≤ to) → LastOf rest ⊎ NoneOf rest
          → LastOf (moment ∷ rest) ⊎ NoneOf (moment ∷ rest)
      go (inl many) (inl last) = inl (record {
        moment = last.moment;
        among = inr last.among;
        few = last.few;
        enough = λ v le. last.enough v (rest_le moment rest v (in_or_not moment v) (λ now. many) le);
      })
      go (inl many) (inr fail) = inr (record {
        enough = λ v le. fail.enough v (rest_le moment rest v (in_or_not moment v) (λ now. many) le);
      })
      go (inr few) (inl last) = inl (greater few last (cases_lt moment last.moment))
      go (inr few) (inr fail) = inl (here few fail)

  -- with that moment alone its range ends by `to`, too
  ends_alone : (moment v : ℕ) → begun moment ≤ to → (in_by v ≤ moment) ⊎ (high v ≤ to)
      → high_at high in_by begun moment v ≤ to
  ends_alone moment v few side = by side (cases_lt moment (in_by v))
    where
      by : (in_by v ≤ moment) ⊎ (high v ≤ to) → (moment < in_by v) ⊎ (in_by v ≤ moment)
          → high_at high in_by begun moment v ≤ to
      by (inl now) other =
          let is : high_at high in_by begun moment v ≡ min (high v) (begun moment) =
          if_in (min (high v) (begun moment)) (high v) (in_by v) moment now in omega (arith, is, few)
      by (inr le) (inl later) =
          let is : high_at high in_by begun moment v ≡ high v =
          if_not_in (min (high v) (begun moment)) (high v) (in_by v) moment later in omega (arith, is, le)
      by (inr le) (inr now) =
          let is : high_at high in_by begun moment v ≡ min (high v) (begun moment) =
          if_in (min (high v) (begun moment)) (high v) (in_by v) moment now in omega (arith, is, few)

pub independent : (n : ℕ) (left : ℕ → Bool) (low high in_by begun : ℕ → ℕ) (moments : List ℕ) (from to : ℕ)
    → IsOverfull n left low (high_at_all high in_by begun moments) from to
    → IsOverfull n left low high from to
    ⊎ ((moment : ℕ) × (IsAmong moment moments × IsOverfull n left low (high_at high in_by begun moment) from to))
independent n left low high in_by begun moments from to full = go (last_of high in_by begun to moments)
  where
    go : LastOf high in_by begun to moments ⊎ NoneOf high in_by begun to moments
        → IsOverfull n left low high from to
        ⊎ ((moment : ℕ) × (IsAmong moment moments × IsOverfull n left low (high_at high in_by begun moment) from to))
    go (inl last) = inr (
      last.moment,
      (
        last.among,
        still_overfull n left low (high_at_all high in_by begun moments) (high_at high in_by begun last.moment) from to
            (λ v lt is. ends_alone high in_by begun to last.moment v last.few (last.enough v is.until)) full,
      ),
    )
    go (inr fail) = inl
        (still_overfull n left low (high_at_all high in_by begun moments) high from to
        (λ v lt is. fail.enough v is.until) full)

-- of those that lie within a range with the moment, one that is not in by then
late_ones : (ℕ → Bool) → (ℕ → ℕ) → (ℕ → ℕ) → (ℕ → ℕ) → (ℕ → ℕ) → ℕ → ℕ → ℕ → ℕ → Bool
late_ones left low high in_by begun moment from to v =
    lies_within left low (high_at high in_by begun moment) from to v && leb (suc moment) (in_by v)

pub crowded : (n : ℕ) (left : ℕ → Bool) (low high in_by begun : ℕ → ℕ) (moment from to : ℕ)
    → EndsByIns n left high in_by
    → IsOverfull n left low (high_at high in_by begun moment) from to
    → IsOverfull n left low high from to ⊎ IsCrowded n left low in_by begun from moment
unfolding late_ones
crowded n left low high in_by begun moment from to ends full =
    go (search_least n (late_ones left low high in_by begun moment from to) (λ v. v)) (cases_lt to (begun moment))
  where
    high_of : (v : ℕ) → moment < in_by v → high_at high in_by begun moment v ≡ high v
    high_of v later = if_not_in (min (high v) (begun moment)) (high v) (in_by v) moment later

    -- a value that is not in by then has a range that ends by `to`, and so have those that are in
    with_late : (w : ℕ) → IsLeft n left w → moment < in_by w → high w ≤ to → IsOverfull n left low high from to
    with_late w left_w later le =
        still_overfull n left low (high_at high in_by begun moment) high from to
        (λ v lt is. by v lt is (cases_lt moment (in_by v))) full
      where
        by : (v : ℕ) → v < n → LiesWithin left low (high_at high in_by begun moment) from to v
            → (moment < in_by v) ⊎ (in_by v ≤ moment) → high v ≤ to
        by v lt is (inl after) = let same : high_at high in_by begun moment v ≡ high v = high_of v after in
            omega (arith, same, is.until)
        by v lt is (inr now) =
            let fewer_v : high v ≤ high w =
            ends.ends v w (record { below = lt; is_left = is.is_left }) left_w (omega (arith, now, later)) in
            omega (arith, fewer_v, le)

    -- all are in by then
    all_in : HasNone n (late_ones left low high in_by begun moment from to)
        → (v : ℕ) → v < n → LiesWithin left low (high_at high in_by begun moment) from to v → in_by v ≤ moment
    all_in fail v lt is = by (cases_lt moment (in_by v))
      where
        by : (moment < in_by v) ⊎ (in_by v ≤ moment) → in_by v ≤ moment
        by (inl after) = absurd (fail.none v lt (and_from
            (lies_within left low (high_at high in_by begun moment) from to v) (leb (suc moment) (in_by v))
            (within_whole left low (high_at high in_by begun moment) from to v is)
            (le-leb (suc moment) (in_by v) (omega (arith, after)))))
        by (inr now) = now

    go : Search n (late_ones left low high in_by begun moment from to) (λ v. v)
        → (to < begun moment) ⊎ (begun moment ≤ to)
        → IsOverfull n left low high from to ⊎ IsCrowded n left low in_by begun from moment
    go (found_least w first) side =
        let both = and_parts (lies_within left low (high_at high in_by begun moment) from to w)
        (leb (suc moment) (in_by w)) first.passes in
        let is = within_parts left low (high_at high in_by begun moment) from to w both.0 in
        let later : suc moment ≤ in_by w = leb-true (suc moment) (in_by w) both.1 in
        let same : high_at high in_by begun moment w ≡ high w = high_of w (omega (arith, later)) in
        inl (with_late w (record { below = first.below; is_left = is.is_left }) (omega (arith, later))
        (omega (arith, same, is.until)))
    go (found_none fail) (inl many) = inl
        (still_overfull n left low (high_at high in_by begun moment) high from to
        (λ v lt is. let same : high_at high in_by begun moment v ≡ min (high v) (begun moment) =
        if_in (min (high v) (begun moment)) (high v) (in_by v) moment (all_in fail v lt is) in
        omega (arith, same, is.until, many)) full)
    go (found_none fail) (inr few) = inr
        (let le : how_many (lies_within left low (high_at high in_by begun moment) from to) n
        ≤ how_many (crowds left low in_by from moment) n =
        at_most (lies_within left low (high_at high in_by begun moment) from to) (crowds left low in_by from moment) n
        (λ v lt pass. let is = within_parts left low (high_at high in_by begun moment) from to v pass in
        and_from (left v) (leb from (low v) && leb (in_by v) moment) is.is_left
        (and_from (leb from (low v)) (leb (in_by v) moment) (le-leb from (low v) is.since)
        (le-leb (in_by v) moment (all_in fail v lt is)))) in
        omega (arith, le, full, few))
