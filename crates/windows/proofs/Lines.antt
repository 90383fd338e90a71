-- One of the values that are left may go next, and so they have a whole line.
use Rattle.std.proofs.Common.{ℕ, zero, suc, ◌≡◌, ◌<◌, ◌≤◌, ◌⊎◌, Bool, true, false, List, [], ◌∷◌, inl, inr, refl, arith}
use Rattle.std.proofs.Common.{sym, subst, eqb}
use Rattle.std.specs.Prelude.{not, ◌&&◌}
use Rattle.std.proofs.lemmas.Bool.{cases_lt, cases_eq, and_parts, and_from, and_right, eq-eqb, ne_eqb, not-true}
use Rattle.std.proofs.lemmas.Bool.{not_from_false, not_from_true, eqb-false}
use Rattle.windows.specs.Counting.{how_many}
use Rattle.windows.specs.Lists.{IsAmong}
use Rattle.windows.specs.Windows.{Window, MustPrecede, HaveNoTwo, IsLeft, MayGoNext, IsLine}
use Rattle.windows.proofs.Counts.{fewer, some_passes}
use Rattle.windows.proofs.Least.{IsLeast, HasNone, Search, found_least, found_none, search_least}

-- the value whose put is over first may go next, or else the one whose take is
pub some_next : (n : ℕ) (window : ℕ → Window) (left : ℕ → Bool) (some : ℕ) → HaveNoTwo n window left → IsLeft n left some
    → (v : ℕ) × MayGoNext n window left v
some_next n window left some rules is =
    go (search_least n left (λ v. (window v).put_to)) (search_least n left (λ v. (window v).take_to))
  where
    by_put : (a : ℕ) → IsLeast n left (λ v. (window v).put_to) a
        → ((w : ℕ) → IsLeft n left w → (window w).take_to < (window a).take_from → ⊥) → MayGoNext n window left a
    by_put a first so = record {
      is_left = record { below = first.below; is_left = first.passes };
      none = λ w is_left must. at w is_left must;
    }
      where
        at : (w : ℕ) → IsLeft n left w → MustPrecede (window w) (window a) → ⊥
        at w is_left (inl puts) =
            let le : (window a).put_to ≤ (window w).put_to = first.least w is_left.below is_left.is_left in
            let own : (window a).put_from ≤ (window a).put_to = (rules.windows a (record { below = first.below; is_left = first.passes })).puts in
            omega (arith, le, own, puts)
        at w is_left (inr takes) = so w is_left takes

    by_take : (b : ℕ) → IsLeast n left (λ v. (window v).take_to) b
        → ((w : ℕ) → IsLeft n left w → (window w).put_to < (window b).put_from → ⊥) → MayGoNext n window left b
    by_take b first so = record {
      is_left = record { below = first.below; is_left = first.passes };
      none = λ w is_left must. at w is_left must;
    }
      where
        at : (w : ℕ) → IsLeft n left w → MustPrecede (window w) (window b) → ⊥
        at w is_left (inl puts) = so w is_left puts
        at w is_left (inr takes) =
            let le : (window b).take_to ≤ (window w).take_to = first.least w is_left.below is_left.is_left in
            let own : (window b).take_from ≤ (window b).take_to = (rules.windows b (record { below = first.below; is_left = first.passes })).takes in
            omega (arith, le, own, takes)

    both : (a b : ℕ) → IsLeast n left (λ v. (window v).put_to) a → IsLeast n left (λ v. (window v).take_to) b
        → ((window b).take_to < (window a).take_from) ⊎ ((window a).take_from ≤ (window b).take_to)
        → (v : ℕ) × MayGoNext n window left v
    both a b first_in first_out (inl before) = (
      b,
      by_take b first_out (λ w is_left puts.
          let le : (window a).put_to ≤ (window w).put_to = first_in.least w is_left.below is_left.is_left in
          let puts_before : (window a).put_to < (window b).put_from = omega (arith, le, puts) in
          rules.no_two a b (record { below = first_in.below; is_left = first_in.passes })
          (record { below = first_out.below; is_left = first_out.passes }) (inl puts_before) (inr before)),
    )
    both a b first_in first_out (inr after) = (
      a,
      by_put a first_in (λ w is_left takes.
          let le : (window b).take_to ≤ (window w).take_to = first_out.least w is_left.below is_left.is_left in
          omega (arith, le, takes, after)),
    )

    go : Search n left (λ v. (window v).put_to) → Search n left (λ v. (window v).take_to)
        → (v : ℕ) × MayGoNext n window left v
    go (found_least a first_in) (found_least b first_out) =
        both a b first_in first_out (cases_lt (window b).take_to (window a).take_from)
    go (found_none fail) other = absurd (fail.none some is.below is.is_left)
    go (found_least a first_in) (found_none fail) = absurd (fail.none some is.below is.is_left)

-- all but one
abbrev pub all_but : (ℕ → Bool) → ℕ → ℕ → Bool
all_but left v w = left w && not (eqb w v)

pub but_left : (left : ℕ → Bool) (v w : ℕ) → all_but left v w ≡ true → left w ≡ true
but_left left v w pass = (and_parts (left w) (not (eqb w v)) pass).0

pub but_other : (left : ℕ → Bool) (v w : ℕ) → all_but left v w ≡ true → w ≡ v → ⊥
but_other left v w pass =
    eqb-false w v (not-true (eqb w v) (and_parts (left w) (not (eqb w v)) pass).1)

pub but_not : (left : ℕ → Bool) (v : ℕ) → all_but left v v ≡ false
but_not left v = and_right (left v) (not (eqb v v)) (not_from_true (eqb v v) (eq-eqb v v refl))

pub but_from : (left : ℕ → Bool) (v w : ℕ) → left w ≡ true → (w ≡ v → ⊥) → all_but left v w ≡ true
but_from left v w pass differ =
    and_from (left w) (not (eqb w v)) pass (not_from_false (eqb w v) (ne_eqb w v differ))

longer : (n : ℕ) (window : ℕ → Window) (left : ℕ → Bool) (v : ℕ) (line : List ℕ) → MayGoNext n window left v
    → IsLine n window (all_but left v) line → IsLine n window left (v ∷ line)
longer n window left v line next is = record {
  each = λ w is_left. each_of w is_left (cases_eq v w);
  those = those_of;
  different = ((λ among. but_other left v v (is.those v among).is_left refl), is.different);
  in_turn = ((λ w among must. next.none w (older w (is.those w among)) must), is.in_turn);
}
  where
    older : (w : ℕ) → IsLeft n (all_but left v) w → IsLeft n left w
    older w is_left = record { below = is_left.below; is_left = but_left left v w is_left.is_left }

    each_of : (w : ℕ) → IsLeft n left w → (v ≡ w) ⊎ (v ≡ w → ⊥) → IsAmong w (v ∷ line)
    each_of w is_left (inl same) = inl same
    each_of w is_left (inr differ) = inr (is.each w (record {
      below = is_left.below;
      is_left = but_from left v w is_left.is_left (λ same. differ (sym same));
    }))

    those_of : (w : ℕ) → IsAmong w (v ∷ line) → IsLeft n left w
    those_of w (inl same) = subst (IsLeft n left) same next.is_left
    those_of w (inr among) = older w (is.those w among)

none_left : (n : ℕ) (window : ℕ → Window) (left : ℕ → Bool) → HasNone n left → IsLine n window left []
none_left n window left fail = record {
  each = λ v is_left. fail.none v is_left.below is_left.is_left;
  those = λ v among. absurd among;
  different = tt;
  in_turn = tt;
}

rules_but : (n : ℕ) (window : ℕ → Window) (left : ℕ → Bool) (c : ℕ) → HaveNoTwo n window left
    → HaveNoTwo n window (all_but left c)
rules_but n window left c rules = record {
  windows = λ v is_left. rules.windows v (older v is_left);
  no_two = λ v w left_v left_w. rules.no_two v w (older v left_v) (older w left_w);
}
  where
    older : (v : ℕ) → IsLeft n (all_but left c) v → IsLeft n left v
    older v is_left = record { below = is_left.below; is_left = but_left left c v is_left.is_left }

line_by : (k n : ℕ) (window : ℕ → Window) (left : ℕ → Bool) → HaveNoTwo n window left → how_many left n ≤ k
    → (line : List ℕ) × IsLine n window left line
line_by zero n window left rules le = go (search_least n left (λ v. v))
  where
    go : Search n left (λ v. v) → (line : List ℕ) × IsLine n window left line
    go (found_none fail) = ([], none_left n window left fail)
    go (found_least v first) =
        absurd (let some : 0 < how_many left n = some_passes left n v first.below first.passes in omega (arith, some, le))
line_by (suc k) n window left rules le =
    go (search_least n left (λ v. v)) (λ some less. line_by k n window (all_but left some) (rules_but n window left some rules) less)
  where
    with_next : ((v : ℕ) × MayGoNext n window left v)
        → ((v : ℕ) → how_many (all_but left v) n ≤ k → (line : List ℕ) × IsLine n window (all_but left v) line)
        → (line : List ℕ) × IsLine n window left line
    with_next (v, next) again =
        let less : how_many (all_but left v) n < how_many left n =
        fewer (all_but left v) left n v (λ w lt pass. but_left left v w pass) next.is_left.below (but_not left v)
        next.is_left.is_left in
        let rest : (line : List ℕ) × IsLine n window (all_but left v) line = again v (omega (arith, less, le)) in
        (v ∷ rest.0, longer n window left v rest.0 next rest.1)

    go : Search n left (λ v. v)
        → ((v : ℕ) → how_many (all_but left v) n ≤ k → (line : List ℕ) × IsLine n window (all_but left v) line)
        → (line : List ℕ) × IsLine n window left line
    go (found_none fail) again = ([], none_left n window left fail)
    go (found_least v first) again =
        with_next (some_next n window left v rules (record { below = first.below; is_left = first.passes })) again

pub whole_line : (n : ℕ) (window : ℕ → Window) (left : ℕ → Bool) → HaveNoTwo n window left
    → (line : List ℕ) × IsLine n window left line
whole_line n window left rules = line_by (how_many left n) n window left rules (omega arith)
