-- Calls have an order, or one of the four patterns is in them.
use Rattle.std.proofs.Common.{ℕ, suc, ◌≡◌, ◌≢◌, ◌<◌, ◌≤◌, ◌+◌, ◌*◌, ◌⊎◌, Bool, true, false, List, [], ◌∷◌, inl, inr, refl}
use Rattle.std.proofs.Common.{arith, sym, subst, ap, ◌∙◌, ltb}
use Rattle.std.specs.Prelude.{◌||◌, max, min, not}
use Rattle.std.proofs.lemmas.Bool.{cases_lt, cases_Bool, and_from, or_cases, or_left, or_right, lt-ltb, le-ltb, ltb-true}
use Rattle.std.proofs.lemmas.Bool.{not_from_false}
use Rattle.windows.specs.Lists.{IsAmong}
use Rattle.windows.specs.Runs.{Step, put, got, nothing}
use Rattle.windows.specs.Windows.{Window, IsWindow, MustPrecede, IsLeft, HaveNoTwo, IsLine}
use Rattle.windows.specs.Calls.{Known, no_call, put_done, put_not, put_open, took, found_nothing, take_not, take_open}
use Rattle.windows.specs.Calls.{Calls, AreCalls, IsPut, Explain, IsAllowed, AreOrdered, place_of, Pattern}
use Rattle.windows.proofs.Lines.{whole_line}
use Rattle.windows.proofs.Merging.{Move, steps_of, AreApart, IsSameStep, Ascend}
use Rattle.windows.proofs.Points.{AreToPass, IsPassing, passing_put, passing_got, passing_nothing, Passes, pass}
use Rattle.windows.proofs.Numbers.{nth_ascend}
use Rattle.windows.proofs.Paired.{IsOut, take_of, out_if_below, ArePaired, paired_or}
use Rattle.windows.proofs.Bounds.{is_done, open_count, begin_of, missing, missing_is, open_take, end_of}
use Rattle.windows.proofs.Bounds.{open_at}
use Rattle.windows.specs.Takes.{IsOverfull}
use Rattle.windows.proofs.Bounds.{low, high}
use Rattle.windows.proofs.Short.{short_pattern}
use Rattle.windows.proofs.Empties.{Moments, IsStuck, moments_or, given_or, stuck_pattern, found_nothing_or}
use Rattle.windows.proofs.Fates.{IsGiving, Fate, is_out, is_given, stays, fate_takes, crossing, in_moment}

abbrev is_found : Known → Bool
is_found no_call = false
is_found put_done = false
is_found put_not = false
is_found put_open = false
is_found (took v) = false
is_found found_nothing = true
is_found take_not = false
is_found take_open = false

found_is : (known : Known) → is_found known ≡ true → known ≡ found_nothing
found_is no_call pass = cc (pass)
found_is put_done pass = cc (pass)
found_is put_not pass = cc (pass)
found_is put_open pass = cc (pass)
found_is (took v) pass = cc (pass)
found_is found_nothing pass = refl
found_is take_not pass = cc (pass)
found_is take_open pass = cc (pass)

-- the values that certainly were put, and the takes that found nothing
abbrev is_certain : Calls → ℕ → Bool
is_certain calls p = ltb (take_of calls p) calls.places || is_done (calls.known p)

abbrev to_pass : Calls → ℕ → Bool
to_pass calls p = is_certain calls p || is_found (calls.known p)

-- windows, in half places: a moment lies behind its place
abbrev value_window : Calls → ℕ → ℕ → ℕ → Window
value_window calls p t e = record {
  put_from = 2 * p;
  put_to = 2 * min (calls.end p) e;
  take_from = 2 * max t p;
  take_to = 2 * e;
}

abbrev moment_window : ℕ → Window
moment_window m = record {
  put_from = 2 * m + 1;
  put_to = 2 * m + 1;
  take_from = 2 * m + 1;
  take_to = 2 * m + 1;
}

-- what passes at a place, with its window and the place of its take
data Place (calls : Calls) (moment give : ℕ → ℕ) (p : ℕ) : Window → ℕ → Type 0 where
  value : (t e : ℕ) → is_certain calls p ≡ true → Fate calls give p t e
      → Place calls moment give p (value_window calls p t e) t
  at_moment : calls.known p ≡ found_nothing → Place calls moment give p (moment_window (moment p)) p

record HasPlace (calls : Calls) (moment give : ℕ → ℕ) (p : ℕ) : Type 0 where
  window : Window
  taker : ℕ
  place : IsLeft calls.places (to_pass calls) p → Place calls moment give p window taker

missing_from : (calls : Calls) (p : ℕ) → p < calls.places → is_certain calls p ≡ true → calls.places ≤ take_of calls p
    → IsLeft calls.places (missing calls) p
missing_from calls p lt certain late = record {
  below = lt;
  is_left = and_from (is_done (calls.known p)) (not (ltb (take_of calls p) calls.places))
      (go (or_cases (ltb (take_of calls p) calls.places) (is_done (calls.known p)) certain))
      (not_from_false (ltb (take_of calls p) calls.places) (le-ltb (take_of calls p) calls.places late));
}
  where
    go : (ltb (take_of calls p) calls.places ≡ true) ⊎ (is_done (calls.known p) ≡ true)
        → is_done (calls.known p) ≡ true
    go (inl out) = absurd (let lt_take : take_of calls p < calls.places = ltb-true (take_of calls p) calls.places out in
        omega (arith, lt_take, late))
    go (inr done) = done

has_place : (calls : Calls) (moment give : ℕ → ℕ) (p : ℕ) → HasPlace calls moment give p
has_place calls moment give p = go (found_nothing_or (calls.known p)) (cases_lt (take_of calls p) calls.places)
    (cases_lt (give p) (open_count calls))
  where
    certain_of : (calls.known p ≡ found_nothing → ⊥) → IsLeft calls.places (to_pass calls) p → is_certain calls p ≡ true
    certain_of differ is_left = by (or_cases (is_certain calls p) (is_found (calls.known p)) is_left.is_left)
      where
        by : (is_certain calls p ≡ true) ⊎ (is_found (calls.known p) ≡ true) → is_certain calls p ≡ true
        by (inl certain) = certain
        by (inr found) = absurd (differ (found_is (calls.known p) found))

    go : (calls.known p ≡ found_nothing) ⊎ (calls.known p ≡ found_nothing → ⊥)
        → (take_of calls p < calls.places) ⊎ (calls.places ≤ take_of calls p)
        → (give p < open_count calls) ⊎ (open_count calls ≤ give p) → HasPlace calls moment give p
    go (inl found) side other = record {
      window = moment_window (moment p);
      taker = p;
      place = λ is_left. at_moment found;
    }
    go (inr differ) (inl out) other = record {
      window = value_window calls p (take_of calls p) (calls.end (take_of calls p));
      taker = take_of calls p;
      place = λ is_left. value (take_of calls p) (calls.end (take_of calls p)) (certain_of differ is_left)
          (is_out (out_if_below calls p out));
    }
    go (inr differ) (inr late) (inl soon) = record {
      window = value_window calls p (begin_of calls (give p)) (end_of calls (give p));
      taker = begin_of calls (give p);
      place = λ is_left. value (begin_of calls (give p)) (end_of calls (give p)) (certain_of differ is_left)
          (is_given (missing_from calls p is_left.below (certain_of differ is_left) late) soon);
    }
    go (inr differ) (inr late) (inr never) = record {
      window = value_window calls p (suc calls.places) (suc calls.places);
      taker = suc calls.places;
      place = λ is_left. value (suc calls.places) (suc calls.places) (certain_of differ is_left)
          (stays (missing_from calls p is_left.below (certain_of differ is_left) late) never);
    }

module _ (calls : Calls) (are : AreCalls calls) (paired : ArePaired calls) (moments : Moments calls calls.places)
    (give : ℕ → ℕ) (given : IsGiving calls moments give) where
  abbrev window_at : ℕ → Window
  window_at p = (has_place calls moments.moment give p).window

  abbrev taker_at : ℕ → ℕ
  taker_at p = (has_place calls moments.moment give p).taker

  abbrev IsPlaced : ℕ → Window → ℕ → Type 0
  IsPlaced p window t = Place calls moments.moment give p window t

  placed : (p : ℕ) → IsLeft calls.places (to_pass calls) p → IsPlaced p (window_at p) (taker_at p)
  placed p is_left = (has_place calls moments.moment give p).place is_left

  is_window : (p : ℕ) (window : Window) (t : ℕ) → p < calls.places → IsPlaced p window t → IsWindow window
  is_window p window t lt (value _ e certain fate) =
      let takes : (p ≤ e) × (t ≤ e) = fate_takes calls are paired moments give given p t e lt fate in
      let after : p < calls.end p = are.after p lt in
      record {
        puts = omega (arith, takes.0, after);
        takes = omega (arith, takes.0, takes.1);
        starts = omega arith;
        ends = omega arith;
      }
  is_window p window t lt (at_moment found) =
      record { puts = omega arith; takes = omega arith; starts = omega arith; ends = omega arith }

  -- of two values
  no_two_values : (v w t e s f : ℕ) → v < calls.places → w < calls.places → Fate calls give v t e
      → Fate calls give w s f → MustPrecede (value_window calls v t e) (value_window calls w s f)
      → MustPrecede (value_window calls w s f) (value_window calls v t e) → ⊥
  no_two_values v w t e s f lt_v lt_w fate_v fate_w = go
    where
      takes_v : (v ≤ e) × (t ≤ e)
      takes_v = fate_takes calls are paired moments give given v t e lt_v fate_v

      takes_w : (w ≤ f) × (s ≤ f)
      takes_w = fate_takes calls are paired moments give given w s f lt_w fate_w

      after_v : v < calls.end v
      after_v = are.after v lt_v

      after_w : w < calls.end w
      after_w = are.after w lt_w

      go : MustPrecede (value_window calls v t e) (value_window calls w s f)
          → MustPrecede (value_window calls w s f) (value_window calls v t e) → ⊥
      go (inl one) (inl other) =
          let a : v < calls.end v = after_v in
          let b : w < calls.end w = after_w in
          let c : (v ≤ e) × (t ≤ e) = takes_v in
          let d : (w ≤ f) × (s ≤ f) = takes_w in
          omega (arith, one, other, a, b, c.0, d.0)
      go (inr one) (inr other) =
          let c : (v ≤ e) × (t ≤ e) = takes_v in
          let d : (w ≤ f) × (s ≤ f) = takes_w in
          omega (arith, one, other, c.0, c.1, d.0, d.1)
      go (inl one) (inr other) =
          let a : v < calls.end v = after_v in
          let c : (v ≤ e) × (t ≤ e) = takes_v in
          let d : (w ≤ f) × (s ≤ f) = takes_w in
          crossing calls are paired moments give given v w t e s f fate_v fate_w lt_v
          (omega (arith, one, other, a, c.0, c.1, d.0)) (omega (arith, one, other, a, c.0, c.1, d.0))
      go (inr one) (inl other) =
          let a : w < calls.end w = after_w in
          let c : (v ≤ e) × (t ≤ e) = takes_v in
          let d : (w ≤ f) × (s ≤ f) = takes_w in
          crossing calls are paired moments give given w v s f t e fate_w fate_v lt_w
          (omega (arith, one, other, a, d.0, d.1, c.0)) (omega (arith, one, other, a, d.0, d.1, c.0))

  -- of a value and a moment
  no_two_mixed : (v t e p : ℕ) → v < calls.places → Fate calls give v t e → p < calls.places
      → calls.known p ≡ found_nothing
      → MustPrecede (value_window calls v t e) (moment_window (moments.moment p))
      → MustPrecede (moment_window (moments.moment p)) (value_window calls v t e) → ⊥
  no_two_mixed v t e p lt fate lt_p found = go
    where
      takes : (v ≤ e) × (t ≤ e)
      takes = fate_takes calls are paired moments give given v t e lt fate

      after : v < calls.end v
      after = are.after v lt

      by : min (calls.end v) e ≤ moments.moment p → moments.moment p < max t v → ⊥
      by le less =
          let a : v < calls.end v = after in
          let c : (v ≤ e) × (t ≤ e) = takes in
          in_moment calls are paired moments give given v t e (moments.moment p) fate (moments.among p lt_p found)
          (omega (arith, le, less, a, c.0, c.1)) (omega (arith, le, less, a, c.0, c.1))

      go : MustPrecede (value_window calls v t e) (moment_window (moments.moment p))
          → MustPrecede (moment_window (moments.moment p)) (value_window calls v t e) → ⊥
      go (inl one) (inl other) = by (omega (arith, one)) (omega (arith, other))
      go (inl one) (inr other) = by (omega (arith, one)) (omega (arith, other))
      go (inr one) (inl other) = by (omega (arith, one)) (omega (arith, other))
      go (inr one) (inr other) = by (omega (arith, one)) (omega (arith, other))

  no_two_moments : (m k : ℕ) → MustPrecede (moment_window m) (moment_window k)
      → MustPrecede (moment_window k) (moment_window m) → ⊥
  no_two_moments m k (inl one) (inl other) = omega (arith, one, other)
  no_two_moments m k (inl one) (inr other) = omega (arith, one, other)
  no_two_moments m k (inr one) (inl other) = omega (arith, one, other)
  no_two_moments m k (inr one) (inr other) = omega (arith, one, other)

  no_two : (v w : ℕ) (one other : Window) (t s : ℕ) → v < calls.places → w < calls.places → IsPlaced v one t
      → IsPlaced w other s → MustPrecede one other → MustPrecede other one → ⊥
  no_two v w one other t s lt_v lt_w (value _ e certain_v fate_v) (value _ f certain_w fate_w) first second =
      no_two_values v w t e s f lt_v lt_w fate_v fate_w first second
  no_two v w one other t s lt_v lt_w (value _ e certain_v fate_v) (at_moment found) first second =
      no_two_mixed v t e w lt_v fate_v lt_w found first second
  no_two v w one other t s lt_v lt_w (at_moment found) (value _ f certain_w fate_w) first second =
      no_two_mixed w s f v lt_w fate_w lt_v found second first
  no_two v w one other t s lt_v lt_w (at_moment found_v) (at_moment found_w) first second =
      no_two_moments (moments.moment v) (moments.moment w) first second

  rules : HaveNoTwo calls.places window_at (to_pass calls)
  rules = record {
    windows = λ v is_left. is_window v (window_at v) (taker_at v) is_left.below (placed v is_left);
    no_two = λ v w left_v left_w. no_two v w (window_at v) (window_at w) (taker_at v) (taker_at w) left_v.below
        left_w.below (placed v left_v) (placed w left_w);
  }

  -- a value that passes was put
  certain_put : (p t e : ℕ) → Fate calls give p t e → (calls.known p ≡ put_done) ⊎ (calls.known p ≡ put_open)
  certain_put p t e (is_out out) = go (are.sources (take_of calls p) p out.within out.got).1
    where
      go : IsPut (calls.known p) → (calls.known p ≡ put_done) ⊎ (calls.known p ≡ put_open)
      go (inl done) = inl done
      go (inr (inl refused)) = absurd ((paired.put (take_of calls p) p out.within out.got).0 refused)
      go (inr (inr unknown)) = inr unknown
  certain_put p t e (is_given is_left soon) = inl (missing_is calls p is_left).done
  certain_put p t e (stays is_left late) = inl (missing_is calls p is_left).done

  not_found : (p t e : ℕ) → Fate calls give p t e → is_found (calls.known p) ≡ true → ⊥
  not_found p t e fate found = go (certain_put p t e fate)
    where
      is : calls.known p ≡ found_nothing
      is = found_is (calls.known p) found

      go : (calls.known p ≡ put_done) ⊎ (calls.known p ≡ put_open) → ⊥
      go (inl done) = let other : calls.known p ≡ found_nothing = is in cc (done, other)
      go (inr unknown) = let other : calls.known p ≡ found_nothing = is in cc (unknown, other)

  abbrev is_empty : ℕ → Bool
  is_empty p = is_found (calls.known p)

  abbrev never : ℕ
  never = 2 * suc calls.places

  puts_early : (p : ℕ) (window : Window) (t : ℕ) → p < calls.places → IsPlaced p window t → window.put_to < never
  puts_early p window t lt (value _ e certain fate) =
      let within : calls.end p ≤ calls.places = are.within p lt in omega (arith, within)
  puts_early p window t lt (at_moment found) =
      let within : calls.end p ≤ calls.places = are.within p lt in
      let before : moments.moment p < calls.end p = moments.before p lt found in omega (arith, within, before)

  all_at_once : (p : ℕ) (window : Window) (t : ℕ) → IsPlaced p window t → is_empty p ≡ true
      → window.take_to ≤ window.put_from
  all_at_once p window t (value _ e certain fate) empty = absurd (not_found p t e fate empty)
  all_at_once p window t (at_moment found) empty = omega arith

  to_pass_rules : AreToPass calls.places window_at (to_pass calls) is_empty never
  to_pass_rules = record {
    windows = rules.windows;
    puts = λ v is_left. puts_early v (window_at v) (taker_at v) is_left.below (placed v is_left);
    at_once = λ v is_left empty. all_at_once v (window_at v) (taker_at v) (placed v is_left) empty;
  }

  line : (xs : List ℕ) × IsLine calls.places window_at (to_pass calls) xs
  line = whole_line calls.places window_at (to_pass calls) rules

  passes : Passes calls.places window_at (to_pass calls) is_empty taker_at never to_pass_rules
  passes = pass calls.places window_at (to_pass calls) is_empty taker_at never to_pass_rules line.0 line.1

  -- the take of a value: its own, or an open one
  data HasTake (v : ℕ) : ℕ → Type 0 where
    own : IsOut calls v → HasTake v (take_of calls v)
    lent : IsLeft calls.places (missing calls) v → give v < open_count calls → HasTake v (begin_of calls (give v))

  -- a step at its point, which lies within its call
  data Sits (point : ℕ) : Step → Type 0 where
    sits_put : (v : ℕ) → v < calls.places → (calls.known v ≡ put_done) ⊎ (calls.known v ≡ put_open) → 2 * v ≤ point
        → point ≤ 2 * calls.end v → Sits point (put v)
    sits_got : (t v : ℕ) → HasTake v t → 2 * t ≤ point → point ≤ 2 * calls.end t → Sits point (got t v)
    sits_nothing : (e : ℕ) → e < calls.places → calls.known e ≡ found_nothing → 2 * e ≤ point
        → point ≤ 2 * calls.end e → Sits point (nothing e)

  put_sits : (v point : ℕ) (window : Window) (t : ℕ) → v < calls.places → IsPlaced v window t → is_empty v ≡ false
      → window.put_from ≤ point → point ≤ window.put_to → Sits point (put v)
  put_sits v point window t lt (value _ e certain fate) full since until =
      sits_put v lt (certain_put v t e fate) since (omega (arith, until))
  put_sits v point window t lt (at_moment found) full since until =
      absurd (let empty : is_empty v ≡ true = ap is_found found in cc (empty, full))

  got_sits : (v point : ℕ) (window : Window) (t : ℕ) → v < calls.places → IsPlaced v window t → is_empty v ≡ false
      → window.take_from ≤ point → point ≤ window.take_to → point < never → Sits point (got t v)
  got_sits v point window t lt (value _ e certain fate) full since until early =
      go t e fate (omega (arith, since)) until
    where
      go : (s f : ℕ) → Fate calls give v s f → 2 * s ≤ point → point ≤ 2 * f → Sits point (got s v)
      go s f (is_out out) low high = sits_got s v (own out) low high
      go s f (is_given is_left soon) low high = sits_got s v (lent is_left soon) low high
      go s f (stays is_left late) low high = absurd (omega (arith, low, early))
  got_sits v point window t lt (at_moment found) full since until early =
      absurd (let empty : is_empty v ≡ true = ap is_found found in cc (empty, full))

  nothing_sits : (v point : ℕ) (window : Window) (t : ℕ) → v < calls.places → IsPlaced v window t → is_empty v ≡ true
      → window.put_from ≤ point → point ≤ window.put_to → Sits point (nothing v)
  nothing_sits v point window t lt (value _ e certain fate) empty since until = absurd (not_found v t e fate empty)
  nothing_sits v point window t lt (at_moment found) empty since until =
      let low : v ≤ moments.moment v = moments.since v lt found in
      let high : moments.moment v < calls.end v = moments.before v lt found in
      sits_nothing v lt found (omega (arith, since, low)) (omega (arith, until, high))

  sits : (m : Move) → IsPassing calls.places window_at (to_pass calls) is_empty taker_at never to_pass_rules m
      → Sits m.point m.step
  sits m (passing_put v is_left full same since until) = subst (Sits m.point) same
      (put_sits v m.point (window_at v) (taker_at v) is_left.below (placed v is_left) full since until)
  sits m (passing_got v is_left full same since until early) = subst (Sits m.point) same
      (got_sits v m.point (window_at v) (taker_at v) is_left.below (placed v is_left) full since until early)
  sits m (passing_nothing v is_left empty same since until) = subst (Sits m.point) same
      (nothing_sits v m.point (window_at v) (taker_at v) is_left.below (placed v is_left) empty since until)

  take_known : (v t : ℕ) → HasTake v t → (t < calls.places) × ((calls.known t ≡ took v) ⊎ (calls.known t ≡ take_open))
  take_known v t (own out) = (out.within, inl out.got)
  take_known v t (lent is_left soon) =
      let is : (begin_of calls (give v) < calls.places) × (calls.known (begin_of calls (give v)) ≡ take_open) =
      open_take calls are (give v) soon in (is.0, inr is.1)

  same_take : (v w t s : ℕ) → HasTake v t → HasTake w s → t ≡ s → v ≡ w
  same_take v w t s (own one) (own other) same =
      let both : took v ≡ took w = sym one.got ∙ ap calls.known same ∙ other.got in cc (both)
  same_take v w t s (own one) (lent left_w soon) same =
      let other : calls.known (begin_of calls (give w)) ≡ take_open = (open_take calls are (give w) soon).1 in
      let both : took v ≡ take_open = sym one.got ∙ ap calls.known same ∙ other in cc (both)
  same_take v w t s (lent left_v soon) (own other) same =
      let one : calls.known (begin_of calls (give v)) ≡ take_open = (open_take calls are (give v) soon).1 in
      let both : took w ≡ take_open = sym other.got ∙ ap calls.known (sym same) ∙ one in cc (both)
  same_take v w t s (lent left_v soon_v) (lent left_w soon_w) same =
      given.different v w left_v left_w (go (cases_lt (give v) (give w)) (cases_lt (give w) (give v)))
    where
      go : (give v < give w) ⊎ (give w ≤ give v) → (give w < give v) ⊎ (give v ≤ give w) → give v ≡ give w
      go (inl less) side =
          absurd (let more : begin_of calls (give v) < begin_of calls (give w) =
          (nth_ascend (open_at calls) calls.places (give v) (give w) less soon_w) in omega (arith, more, same))
      go (inr le) (inl less) =
          absurd (let more : begin_of calls (give w) < begin_of calls (give v) =
          (nth_ascend (open_at calls) calls.places (give w) (give v) less soon_v) in omega (arith, more, same))
      go (inr le) (inr more) = omega (arith, le, more)

  put_or_take : (known : Known) (v : ℕ) → (known ≡ put_done) ⊎ (known ≡ put_open)
      → (known ≡ took v) ⊎ (known ≡ take_open) → ⊥
  put_or_take known v (inl one) (inl other) = cc (one, other)
  put_or_take known v (inl one) (inr other) = cc (one, other)
  put_or_take known v (inr one) (inl other) = cc (one, other)
  put_or_take known v (inr one) (inr other) = cc (one, other)

  put_or_nothing : (known : Known) → (known ≡ put_done) ⊎ (known ≡ put_open) → known ≡ found_nothing → ⊥
  put_or_nothing known (inl one) other = cc (one, other)
  put_or_nothing known (inr one) other = cc (one, other)

  took_or_nothing : (known : Known) (v : ℕ) → (known ≡ took v) ⊎ (known ≡ take_open) → known ≡ found_nothing → ⊥
  took_or_nothing known v (inl one) other = cc (one, other)
  took_or_nothing known v (inr one) other = cc (one, other)

  places_differ : (p q : ℕ) (x y : Step) → Sits p x → Sits q y → (IsSameStep x y → ⊥) → place_of x ≢ place_of y
  places_differ p q x y (sits_put v lt known low high) (sits_put w lt_w known_w low_w high_w) apart same = apart same
  places_differ p q x y (sits_put v lt known low high) (sits_got t w takes low_w high_w) apart same =
      put_or_take (calls.known v) w known
      (subst (λ (s : ℕ). (calls.known s ≡ took w) ⊎ (calls.known s ≡ take_open)) (sym same) (take_known w t takes).1)
  places_differ p q x y (sits_put v lt known low high) (sits_nothing e lt_e found low_e high_e) apart same =
      put_or_nothing (calls.known v) known (ap calls.known same ∙ found)
  places_differ p q x y (sits_got t v takes low high) (sits_put w lt_w known_w low_w high_w) apart same =
      put_or_take (calls.known w) v known_w
      (subst (λ (s : ℕ). (calls.known s ≡ took v) ⊎ (calls.known s ≡ take_open)) same (take_known v t takes).1)
  places_differ p q x y (sits_got t v takes low high) (sits_got s w takes_w low_w high_w) apart same =
      apart (same_take v w t s takes takes_w same)
  places_differ p q x y (sits_got t v takes low high) (sits_nothing e lt_e found low_e high_e) apart same =
      took_or_nothing (calls.known t) v (take_known v t takes).1 (ap calls.known same ∙ found)
  places_differ p q x y (sits_nothing e lt found low high) (sits_put w lt_w known_w low_w high_w) apart same =
      put_or_nothing (calls.known w) known_w (ap calls.known (sym same) ∙ found)
  places_differ p q x y (sits_nothing e lt found low high) (sits_got s w takes_w low_w high_w) apart same =
      took_or_nothing (calls.known s) w (take_known w s takes_w).1 (ap calls.known (sym same) ∙ found)
  places_differ p q x y (sits_nothing e lt found low high) (sits_nothing f lt_f found_f low_f high_f) apart same =
      apart same

  since_begin : (p : ℕ) (x : Step) → Sits p x → 2 * place_of x ≤ p
  since_begin p x (sits_put v lt known low high) = low
  since_begin p x (sits_got t v takes low high) = low
  since_begin p x (sits_nothing e lt found low high) = low

  until_end : (p : ℕ) (x : Step) → Sits p x → p ≤ 2 * calls.end (place_of x)
  until_end p x (sits_put v lt known low high) = high
  until_end p x (sits_got t v takes low high) = high
  until_end p x (sits_nothing e lt found low high) = high

  is_allowed : (p : ℕ) (x : Step) → Sits p x → (place_of x < calls.places) × IsAllowed calls x
  is_allowed p x (sits_put v lt known low high) = (lt, known)
  is_allowed p x (sits_got t v takes low high) = ((take_known v t takes).0, (take_known v t takes).1)
  is_allowed p x (sits_nothing e lt found low high) = (lt, inl found)

  record HasMove (step : Step) (moves : List Move) : Type 0 where
    move : Move
    among : IsAmong move moves
    is : move.step ≡ step

  move_of : (step : Step) (moves : List Move) → IsAmong step (steps_of moves) → HasMove step moves
  move_of step [] among = absurd among
  move_of step (m ∷ moves) (inl same) = record { move = m; among = inl refl; is = same }
  move_of step (m ∷ moves) (inr later) =
      let has : HasMove step moves = move_of step moves later in
      record { move = has.move; among = inr has.among; is = has.is }

  above : (low : ℕ) (moves : List Move) (n : Move) → Ascend low moves → IsAmong n moves → low ≤ n.point
  above low [] n ascend among = absurd among
  above low (m ∷ moves) n ascend (inl same) =
      let points : m.point ≡ n.point = ap (λ (x : Move). x.point) same in omega (arith, points, ascend.0)
  above low (m ∷ moves) n ascend (inr later) =
      let le : m.point ≤ n.point = above m.point moves n ascend.1 later in omega (arith, le, ascend.0)

  ordered : (low : ℕ) (moves : List Move) → Ascend low moves → AreApart moves
      → ((m : Move) → IsAmong m moves → Sits m.point m.step) → AreOrdered calls (steps_of moves)
  ordered low [] ascend apart all_sit = tt
  ordered low (m ∷ moves) ascend apart all_sit = (
    (λ step among. by step (move_of step moves among)),
    ordered m.point moves ascend.1 apart.1 (λ n among. all_sit n (inr among)),
  )
    where
      by : (step : Step) → HasMove step moves
          → (place_of m.step ≢ place_of step) × (calls.end (place_of step) < place_of m.step → ⊥)
      by step has =
          let mine : Sits m.point m.step = all_sit m (inl refl) in
          let other : Sits has.move.point has.move.step = all_sit has.move (inr has.among) in
          let at : place_of has.move.step ≡ place_of step = ap place_of has.is in (
            (λ same. places_differ m.point has.move.point m.step has.move.step mine other
                (apart.0 has.move has.among) (same ∙ sym at)),
            (λ lt. let first : 2 * place_of m.step ≤ m.point = since_begin m.point m.step mine in
                let last : has.move.point ≤ 2 * calls.end (place_of has.move.step) =
                until_end has.move.point has.move.step other in
                let le : m.point ≤ has.move.point = above m.point moves has.move ascend.1 has.among in
                let ends : calls.end (place_of has.move.step) ≡ calls.end (place_of step) = ap calls.end at in
                omega (arith, first, last, le, ends, lt)),
          )

  to_pass_done : (v : ℕ) → v < calls.places → calls.known v ≡ put_done → IsLeft calls.places (to_pass calls) v
  to_pass_done v lt known = record {
    below = lt;
    is_left = or_left (is_certain calls v) (is_found (calls.known v))
        (or_right (ltb (take_of calls v) calls.places) (is_done (calls.known v)) (ap is_done known));
  }

  to_pass_out : (v : ℕ) → IsOut calls v → IsLeft calls.places (to_pass calls) v
  to_pass_out v out = record {
    below = (are.sources (take_of calls v) v out.within out.got).0;
    is_left = or_left (is_certain calls v) (is_found (calls.known v))
        (or_left (ltb (take_of calls v) calls.places) (is_done (calls.known v))
        (lt-ltb (take_of calls v) calls.places out.within));
  }

  to_pass_found : (e : ℕ) → e < calls.places → calls.known e ≡ found_nothing → IsLeft calls.places (to_pass calls) e
  to_pass_found e lt known = record {
    below = lt;
    is_left = or_right (is_certain calls e) (is_found (calls.known e)) (ap is_found known);
  }

  full_out : (v : ℕ) → IsOut calls v → is_empty v ≡ false
  full_out v out = go (cases_Bool (is_empty v))
    where
      go : (is_empty v ≡ true) ⊎ (is_empty v ≡ false) → is_empty v ≡ false
      go (inl found) = absurd (not_found v (take_of calls v) (calls.end (take_of calls v)) (is_out out) found)
      go (inr full) = full

  -- the window and the take of a value that came out are its own
  record IsOwn (v : ℕ) (window : Window) (t : ℕ) : Type 0 where
    taker : t ≡ take_of calls v
    until : window.take_to < never

  own_take : (v : ℕ) (window : Window) (t : ℕ) → IsOut calls v → IsPlaced v window t → IsOwn v window t
  own_take v window t out (value _ e certain fate) = go t e fate
    where
      go : (s f : ℕ) → Fate calls give v s f → IsOwn v (value_window calls v s f) s
      go s f (is_out is) = record {
        taker = refl;
        until = let within : calls.end (take_of calls v) ≤ calls.places = are.within (take_of calls v) is.within in
            omega (arith, within);
      }
      go s f (is_given is_left soon) =
          absurd ((missing_is calls v is_left).none (take_of calls v) out.within out.got)
      go s f (stays is_left late) = absurd ((missing_is calls v is_left).none (take_of calls v) out.within out.got)
  own_take v window t out (at_moment found) =
      absurd (not_found v (take_of calls v) (calls.end (take_of calls v)) (is_out out) (ap is_found found))

  explain : Explain calls (steps_of passes.moves)
  explain = record {
    runs = passes.runs;
    allowed = λ step among. allowed step (move_of step passes.moves among);
    ordered = ordered 0 passes.moves passes.ascend passes.apart (λ m among. sits m (passes.members m among));
    puts = λ v lt known. passes.puts v (to_pass_done v lt known)
        (ap is_found known);
    takes = takes;
    empties = λ e lt known. passes.nothings e (to_pass_found e lt known) (ap is_found known);
  }
    where
      allowed : (step : Step) → HasMove step passes.moves → (place_of step < calls.places) × IsAllowed calls step
      allowed step has = subst (λ (x : Step). (place_of x < calls.places) × IsAllowed calls x) has.is
          (is_allowed has.move.point has.move.step (sits has.move (passes.members has.move has.among)))

      takes : (t v : ℕ) → t < calls.places → calls.known t ≡ took v → IsAmong (got t v) (steps_of passes.moves)
      takes t v lt got_it =
          let same : take_of calls v ≡ t = paired.once t v lt got_it in
          let out : IsOut calls v = out_if_below calls v (omega (arith, same, lt)) in
          let is : IsOwn v (window_at v) (taker_at v) =
          own_take v (window_at v) (taker_at v) out (placed v (to_pass_out v out)) in
          subst (λ (s : ℕ). IsAmong (got s v) (steps_of passes.moves)) (is.taker ∙ same)
          (passes.gots v (to_pass_out v out) (full_out v out) is.until)

-- steps that explain the calls, where nothing is wrong
pub explained : (calls : Calls) → AreCalls calls → ArePaired calls → (moments : Moments calls calls.places)
    → (give : ℕ → ℕ) → IsGiving calls moments give → (steps : List Step) × Explain calls steps
explained calls are paired moments give given = (
  steps_of (passes calls are paired moments give given).moves,
  explain calls are paired moments give given,
)

pub order_or_pattern : (calls : Calls) → AreCalls calls → ((steps : List Step) × Explain calls steps) ⊎ Pattern calls
order_or_pattern calls are = go (paired_or calls are) (moments_or calls are calls.places (omega arith))
  where
    with_moments : ArePaired calls → (moments : Moments calls calls.places)
        → ((give : ℕ → ℕ) × IsGiving calls moments give)
        ⊎ ((a : ℕ) × ((b : ℕ) × IsOverfull calls.places (missing calls) (low calls) (high calls) a b))
        → ((steps : List Step) × Explain calls steps) ⊎ Pattern calls
    with_moments paired moments (inl (give, given)) = inl (explained calls are paired moments give given)
    with_moments paired moments (inr (a, (b, full))) = inr (short_pattern calls are a b full)

    go : ArePaired calls ⊎ Pattern calls → Moments calls calls.places ⊎ IsStuck calls
        → ((steps : List Step) × Explain calls steps) ⊎ Pattern calls
    go (inr pattern) other = inr pattern
    go (inl paired) (inr stuck) = inr (stuck_pattern calls are stuck)
    go (inl paired) (inl moments) = with_moments paired moments (given_or calls are calls.places moments)
