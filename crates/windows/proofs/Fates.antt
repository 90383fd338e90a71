-- What becomes of each value, and that no two must each go before the other.
use Rattle.std.proofs.Common.{ℕ, suc, ◌≡◌, ◌<◌, ◌≤◌, ◌⊎◌, List, [], ◌∷◌, inl, inr}
use Rattle.std.proofs.Common.{arith, ap}
use Rattle.std.specs.Prelude.{min}
use Rattle.std.proofs.lemmas.Bool.{cases_lt}
use Rattle.windows.specs.Lists.{IsAmong}
use Rattle.windows.specs.Windows.{IsLeft}
use Rattle.windows.specs.Takes.{AreGiven, begun_before}
use Rattle.windows.specs.Moments.{high_at_all}
use Rattle.windows.specs.Calls.{Calls, AreCalls}
use Rattle.windows.proofs.Apart.{if_in, if_not_in}
use Rattle.windows.proofs.Ranges.{begun}
use Rattle.windows.proofs.Paired.{IsOut, take_of, ArePaired}
use Rattle.windows.proofs.Bounds.{has_release, has_limit, release, limit, low, high, open_count, begin_of}
use Rattle.windows.proofs.Bounds.{end_of, begun_by, missing, sorted, not_early, begun_few, high_bound}
use Rattle.windows.proofs.Bounds.{highs_ascend, lows_ascend, open_take}
use Rattle.windows.proofs.Empties.{Moments}

-- ranges with all moments end no later than without, and by the takes begun by each moment by which the value is in
module _ (highs in_by begun_at : ℕ → ℕ) where
  by_first : (moment : ℕ) (rest : List ℕ) (v : ℕ) → (in_by v ≤ moment)
      → high_at_all highs in_by begun_at (moment ∷ rest) v
      ≡ min (high_at_all highs in_by begun_at rest v) (begun_at moment)
  by_first moment rest v now =
      if_in (min (high_at_all highs in_by begun_at rest v) (begun_at moment)) (high_at_all highs in_by begun_at rest v)
      (in_by v) moment now

  not_by_first : (moment : ℕ) (rest : List ℕ) (v : ℕ) → (moment < in_by v)
      → high_at_all highs in_by begun_at (moment ∷ rest) v ≡ high_at_all highs in_by begun_at rest v
  not_by_first moment rest v later =
      if_not_in (min (high_at_all highs in_by begun_at rest v) (begun_at moment))
      (high_at_all highs in_by begun_at rest v) (in_by v) moment later

  pub all_most : (moments : List ℕ) (v : ℕ) → high_at_all highs in_by begun_at moments v ≤ highs v
  all_most [] v = omega arith
  all_most (moment ∷ rest) v = go (cases_lt moment (in_by v)) (all_most rest v)
    where
      go : (moment < in_by v) ⊎ (in_by v ≤ moment) → high_at_all highs in_by begun_at rest v ≤ highs v
          → high_at_all highs in_by begun_at (moment ∷ rest) v ≤ highs v
      go (inl later) again =
          let is : high_at_all highs in_by begun_at (moment ∷ rest) v ≡ high_at_all highs in_by begun_at rest v =
          not_by_first moment rest v later in omega (arith, is, again)
      go (inr now) again =
          let is : high_at_all highs in_by begun_at (moment ∷ rest) v
          ≡ min (high_at_all highs in_by begun_at rest v) (begun_at moment) = by_first moment rest v now in
          omega (arith, is, again)

  pub all_by : (moments : List ℕ) (t v : ℕ) → IsAmong t moments → in_by v ≤ t
      → high_at_all highs in_by begun_at moments v ≤ begun_at t
  all_by [] t v among now = absurd among
  all_by (moment ∷ rest) t v (inl same) now =
      let is : high_at_all highs in_by begun_at (moment ∷ rest) v
      ≡ min (high_at_all highs in_by begun_at rest v) (begun_at moment) =
      by_first moment rest v (omega (arith, same, now)) in
      let begins : begun_at moment ≡ begun_at t = ap begun_at same in
      omega (arith, is, begins)
  all_by (moment ∷ rest) t v (inr later) now = go (cases_lt moment (in_by v)) (all_by rest t v later now)
    where
      go : (moment < in_by v) ⊎ (in_by v ≤ moment) → high_at_all highs in_by begun_at rest v ≤ begun_at t
          → high_at_all highs in_by begun_at (moment ∷ rest) v ≤ begun_at t
      go (inl after) again =
          let is : high_at_all highs in_by begun_at (moment ∷ rest) v ≡ high_at_all highs in_by begun_at rest v =
          not_by_first moment rest v after in omega (arith, is, again)
      go (inr before) again =
          let is : high_at_all highs in_by begun_at (moment ∷ rest) v
          ≡ min (high_at_all highs in_by begun_at rest v) (begun_at moment) = by_first moment rest v before in
          omega (arith, is, again)

  pub all_ascend : (moments : List ℕ) (v w : ℕ) → highs v ≤ highs w → in_by v ≤ in_by w
      → high_at_all highs in_by begun_at moments v ≤ high_at_all highs in_by begun_at moments w
  all_ascend [] v w le ins = le
  all_ascend (moment ∷ rest) v w le ins =
      go (cases_lt moment (in_by v)) (cases_lt moment (in_by w)) (all_ascend rest v w le ins)
    where
      go : (moment < in_by v) ⊎ (in_by v ≤ moment) → (moment < in_by w) ⊎ (in_by w ≤ moment)
          → high_at_all highs in_by begun_at rest v ≤ high_at_all highs in_by begun_at rest w
          → high_at_all highs in_by begun_at (moment ∷ rest) v ≤ high_at_all highs in_by begun_at (moment ∷ rest) w
      go (inl later) (inr now) again = absurd (omega (arith, later, now, ins))
      go (inl later_v) (inl later_w) again =
          let one : high_at_all highs in_by begun_at (moment ∷ rest) v ≡ high_at_all highs in_by begun_at rest v =
          not_by_first moment rest v later_v in
          let other : high_at_all highs in_by begun_at (moment ∷ rest) w ≡ high_at_all highs in_by begun_at rest w =
          not_by_first moment rest w later_w in
          omega (arith, one, other, again)
      go (inr now) (inl later) again =
          let one : high_at_all highs in_by begun_at (moment ∷ rest) v
          ≡ min (high_at_all highs in_by begun_at rest v) (begun_at moment) = by_first moment rest v now in
          let other : high_at_all highs in_by begun_at (moment ∷ rest) w ≡ high_at_all highs in_by begun_at rest w =
          not_by_first moment rest w later in
          omega (arith, one, other, again)
      go (inr now_v) (inr now_w) again =
          let one : high_at_all highs in_by begun_at (moment ∷ rest) v
          ≡ min (high_at_all highs in_by begun_at rest v) (begun_at moment) = by_first moment rest v now_v in
          let other : high_at_all highs in_by begun_at (moment ∷ rest) w
          ≡ min (high_at_all highs in_by begun_at rest w) (begun_at moment) = by_first moment rest w now_w in
          omega (arith, one, other, again)

-- what is given to the missing values, with all moments
abbrev pub high_now : (calls : Calls) → Moments calls calls.places → ℕ → ℕ
high_now calls moments = high_at_all (high calls) calls.end (begun_by calls) moments.list

abbrev pub IsGiving : (calls : Calls) → Moments calls calls.places → (ℕ → ℕ) → Type 0
IsGiving calls moments give = AreGiven calls.places (missing calls) (low calls) (high_now calls moments) give

-- the take of a value, and where it ends: a value that came out has its own, a missing one that which it is given, or none
pub data Fate (calls : Calls) (give : ℕ → ℕ) (v : ℕ) : ℕ → ℕ → Type 0 where
  is_out : IsOut calls v → Fate calls give v (take_of calls v) (calls.end (take_of calls v))
  is_given : IsLeft calls.places (missing calls) v → give v < open_count calls
      → Fate calls give v (begin_of calls (give v)) (end_of calls (give v))
  stays : IsLeft calls.places (missing calls) v → open_count calls ≤ give v
      → Fate calls give v (suc calls.places) (suc calls.places)

module _ (calls : Calls) (are : AreCalls calls) (paired : ArePaired calls) (moments : Moments calls calls.places)
    (give : ℕ → ℕ) (given : IsGiving calls moments give) where
  given_high : (v : ℕ) → IsLeft calls.places (missing calls) v → give v < high calls v
  given_high v is_left =
      let lt : give v < high_now calls moments v = given.before v is_left in
      let le : high_now calls moments v ≤ high calls v =
      all_most (high calls) calls.end (begun_by calls) moments.list v in
      omega (arith, lt, le)

  pub fate_takes : (v t e : ℕ) → v < calls.places → Fate calls give v t e → (v ≤ e) × (t ≤ e)
  fate_takes v t e lt (is_out out) =
      let after : take_of calls v < calls.end (take_of calls v) = are.after (take_of calls v) out.within in
      ((paired.put (take_of calls v) v out.within out.got).1, omega (arith, after))
  fate_takes v t e lt (is_given is_left soon) =
      let own : v ≤ release calls v = (has_release calls v).own in
      let ends : release calls v ≤ end_of calls (give v) =
      not_early calls are v (give v) soon (given.since v is_left) in
      let after : begin_of calls (give v) < end_of calls (give v) =
      are.after (begin_of calls (give v)) (open_take calls are (give v) soon).0 in
      (omega (arith, own, ends), omega (arith, after))
  fate_takes v t e lt (stays is_left late) = (omega (arith, lt), omega arith)

  -- a value that has no limit but the end, and one that has one
  bounded : (v w : ℕ) → IsOut calls w → calls.end v < w → give v < high calls v
      → (give v < open_count calls) × (give v < open_count calls → begin_of calls (give v) < calls.end (take_of calls w))
  bounded v w out lt less =
      let first : limit calls v ≤ calls.end (take_of calls w) =
      (has_limit calls v).each w out (are.sources (take_of calls w) w out.within out.got).0 lt in
      let within : calls.end (take_of calls w) ≤ calls.places = are.within (take_of calls w) out.within in
      let top : high calls v ≡ begun_before (open_count calls) (begin_of calls) (limit calls v) =
      high_bound calls are v (omega (arith, first, within)) in
      let few : begun_before (open_count calls) (begin_of calls) (limit calls v) ≤ open_count calls =
      begun_few calls are (limit calls v) in (
        omega (arith, less, top, few),
        (λ below. let soon : begin_of calls (give v) < limit calls v =
            (begun (open_count calls) (begin_of calls) (end_of calls) (limit calls v) (give v) (sorted calls are) below).1
            (omega (arith, less, top)) in omega (arith, soon, first)),
      )

  in_turn : (v w : ℕ) → IsLeft calls.places (missing calls) v → IsLeft calls.places (missing calls) w → calls.end v < w
      → give v < give w
  in_turn v w left_v left_w lt =
      let after_v : v < calls.end v = are.after v left_v.below in
      let after_w : w < calls.end w = are.after w left_w.below in
      given.in_turn v w left_v left_w (omega (arith, lt, after_v)) (lows_ascend calls are v w lt left_v.below)
      (all_ascend (high calls) calls.end (begun_by calls) moments.list v w
      (highs_ascend calls are v w (omega (arith, lt, after_w))) (omega (arith, lt, after_w)))

  -- no value is put before another one and taken after it
  pub crossing : (v w t e s f : ℕ) → Fate calls give v t e → Fate calls give w s f → v < calls.places → calls.end v < w
      → f < t → ⊥
  crossing v w t e s f (is_out out_v) (is_out out_w) below lt less = paired.in_turn v w out_v out_w lt less
  crossing v w t e s f (is_out out_v) (is_given left_w soon) below lt less =
      let each : take_of calls v ≤ release calls w = (has_release calls w).each v out_v below lt in
      let ends : release calls w ≤ end_of calls (give w) =
      not_early calls are w (give w) soon (given.since w left_w) in
      omega (arith, each, ends, less)
  crossing v w t e s f (is_out out_v) (stays left_w late) below lt less = omega (arith, out_v.within, less)
  crossing v w t e s f (is_given left_v soon) (is_out out_w) below lt less =
      let early : begin_of calls (give v) < calls.end (take_of calls w) =
      (bounded v w out_w lt (given_high v left_v)).1 soon in omega (arith, early, less)
  crossing v w t e s f (stays left_v late) (is_out out_w) below lt less =
      let early : give v < open_count calls = (bounded v w out_w lt (given_high v left_v)).0 in omega (arith, early, late)
  crossing v w t e s f (is_given left_v soon_v) (is_given left_w soon_w) below lt less =
      let turn : give v < give w = in_turn v w left_v left_w lt in
      let ends : end_of calls (give v) ≤ end_of calls (give w) = (sorted calls are).by_end (give v) (give w) turn soon_w in
      let after : begin_of calls (give v) < end_of calls (give v) =
      are.after (begin_of calls (give v)) (open_take calls are (give v) soon_v).0 in
      omega (arith, ends, after, less)
  crossing v w t e s f (is_given left_v soon_v) (stays left_w late) below lt less =
      let within : begin_of calls (give v) < calls.places = (open_take calls are (give v) soon_v).0 in
      omega (arith, within, less)
  crossing v w t e s f (stays left_v late) (is_given left_w soon) below lt less =
      let turn : give v < give w = in_turn v w left_v left_w lt in omega (arith, turn, late, soon)
  crossing v w t e s f (stays left_v late_v) (stays left_w late_w) below lt less = omega (arith, less)

  -- no value is in at a moment
  pub in_moment : (v t e m : ℕ) → Fate calls give v t e → IsAmong m moments.list → calls.end v ≤ m → m < t → ⊥
  in_moment v t e m (is_out out) among le less = (moments.clear m among).not_covered v out le less
  in_moment v t e m (is_given is_left soon) among le less =
      let lt : give v < high_now calls moments v = given.before v is_left in
      let most : high_now calls moments v ≤ begun_by calls m =
      all_by (high calls) calls.end (begun_by calls) moments.list m v among le in
      let early : begin_of calls (give v) < suc m =
      (begun (open_count calls) (begin_of calls) (end_of calls) (suc m) (give v) (sorted calls are) soon).1
      (omega (arith, lt, most)) in
      omega (arith, early, less)
  in_moment v t e m (stays is_left late) among le less =
      let lt : give v < high_now calls moments v = given.before v is_left in
      let most : high_now calls moments v ≤ begun_by calls m =
      all_by (high calls) calls.end (begun_by calls) moments.list m v among le in
      let few : begun_before (open_count calls) (begin_of calls) (suc m) ≤ open_count calls = begun_few calls are (suc m) in
      omega (arith, lt, most, few, late)
