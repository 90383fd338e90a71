-- Values in a line go through the queue: each put and take has a point within its window.
use Rattle.std.proofs.Common.{ℕ, ◌≡◌, ◌<◌, ◌≤◌, ◌*◌, ◌⊎◌, Bool, true, false, List, [], ◌∷◌, length, inl}
use Rattle.std.proofs.Common.{inr, refl, arith, sym, subst, ap, ◌∙◌}
use Rattle.std.specs.Prelude.{max}
use Rattle.std.proofs.lemmas.Bool.{cases_lt}
use Rattle.windows.specs.Lists.{IsAmong, AreDifferent}
use Rattle.windows.specs.Runs.{put, got, nothing, Runs}
use Rattle.windows.specs.Windows.{Window, IsWindow, MustPrecede, IsLeft, AreInTurn, IsLine}
use Rattle.windows.proofs.Merging.{Item, Move, values_of, steps_of, AreApart, Ascend, put_of, got_of, nothing_of}
use Rattle.windows.proofs.Merging.{IsPointed, ArePointed, IsMoveOf, is_put, is_got, is_nothing, Merged, merged}

-- windows of values of which some stand for takes that found nothing; a take that is never made is one from `never` on
pub record AreToPass (n : ℕ) (window : ℕ → Window) (left is_empty : ℕ → Bool) (never : ℕ) : Type 0 where
  pub windows : (v : ℕ) → IsLeft n left v → IsWindow (window v)
  pub puts : (v : ℕ) → IsLeft n left v → (window v).put_to < never
  pub at_once : (v : ℕ) → IsLeft n left v → is_empty v ≡ true → (window v).take_to ≤ (window v).put_from

module _ (n : ℕ) (window : ℕ → Window) (left is_empty : ℕ → Bool) (taker : ℕ → ℕ) (never : ℕ)
    (rules : AreToPass n window left is_empty never) where
  abbrev points : ℕ → ℕ → List ℕ → List Item
  points a b [] = []
  points a b (v ∷ rest) =
      record { value = v; put_at = max a (window v).put_from; take_at = max b (window v).take_from }
      ∷ points (max a (window v).put_from) (max b (window v).take_from) rest

  -- what may come behind the points a and b
  record MayFollow (a b v : ℕ) : Type 0 where
    puts : a ≤ (window v).put_to
    takes : b ≤ (window v).take_to

  pub record IsWithin (x : Item) : Type 0 where
    pub put_since : (window x.value).put_from ≤ x.put_at
    pub put_until : x.put_at ≤ (window x.value).put_to
    pub take_since : (window x.value).take_from ≤ x.take_at
    pub take_until : x.take_at ≤ (window x.value).take_to

  values_points : (a b : ℕ) (line : List ℕ) → values_of (points a b line) ≡ line
  values_points a b [] = refl
  values_points a b (v ∷ rest) = ap (λ (vs : List ℕ). v ∷ vs)
      (values_points (max a (window v).put_from) (max b (window v).take_from) rest)

  first_point : (a b v : ℕ) → a ≤ b → IsLeft n left v → MayFollow a b v → IsPointed is_empty taker never a b
      (record { value = v; put_at = max a (window v).put_from; take_at = max b (window v).take_from })
  first_point a b v le is_left follows =
      let own : IsWindow (window v) = rules.windows v is_left in
      let starts : (window v).put_from ≤ (window v).take_from = own.starts in
      let width : (window v).put_from ≤ (window v).put_to = own.puts in
      let takes : (window v).take_from ≤ (window v).take_to = own.takes in
      let soon : (window v).put_to < never = rules.puts v is_left in
      record {
        puts = omega arith;
        takes = omega arith;
        goes = omega (arith, le, starts);
        early = omega (arith, follows.puts, width, soon);
        at_once = λ empty. let once : (window v).take_to ≤ (window v).put_from = rules.at_once v is_left empty in
            omega (arith, once, takes, follows.takes);
      }

  first_within : (a b v : ℕ) → IsLeft n left v → MayFollow a b v → IsWithin
      (record { value = v; put_at = max a (window v).put_from; take_at = max b (window v).take_from })
  first_within a b v is_left follows =
      let own : IsWindow (window v) = rules.windows v is_left in
      let width : (window v).put_from ≤ (window v).put_to = own.puts in
      let takes : (window v).take_from ≤ (window v).take_to = own.takes in
      record {
        put_since = omega arith;
        put_until = omega (arith, width, follows.puts);
        take_since = omega arith;
        take_until = omega (arith, takes, follows.takes);
      }

  -- what follows v in the line may follow its points
  follows_on : (a b v w : ℕ) → MayFollow a b w → (MustPrecede (window w) (window v) → ⊥)
      → MayFollow (max a (window v).put_from) (max b (window v).take_from) w
  follows_on a b v w follows none = record {
    puts = by_put (cases_lt (window w).put_to (window v).put_from);
    takes = by_take (cases_lt (window w).take_to (window v).take_from);
  }
    where
      by_put : ((window w).put_to < (window v).put_from) ⊎ ((window v).put_from ≤ (window w).put_to)
          → max a (window v).put_from ≤ (window w).put_to
      by_put (inl less) = absurd (none (inl less))
      by_put (inr more) = let le : a ≤ (window w).put_to = follows.puts in omega (arith, le, more)

      by_take : ((window w).take_to < (window v).take_from) ⊎ ((window v).take_from ≤ (window w).take_to)
          → max b (window v).take_from ≤ (window w).take_to
      by_take (inl less) = absurd (none (inr less))
      by_take (inr more) = let le : b ≤ (window w).take_to = follows.takes in omega (arith, le, more)

  pointed : (a b : ℕ) (line : List ℕ) → a ≤ b → ((v : ℕ) → IsAmong v line → IsLeft n left v)
      → ((v : ℕ) → IsAmong v line → MayFollow a b v) → AreInTurn window line
      → ArePointed is_empty taker never a b (points a b line)
      × ((x : Item) → IsAmong x (points a b line) → IsWithin x)
  pointed a b [] le lefts follow turn = (tt, (λ x among. absurd among))
  pointed a b (v ∷ rest) le lefts follow turn =
      let mine : IsLeft n left v = lefts v (inl refl) in
      let here : MayFollow a b v = follow v (inl refl) in
      let starts : (window v).put_from ≤ (window v).take_from = (rules.windows v mine).starts in
      let again = pointed (max a (window v).put_from) (max b (window v).take_from) rest (omega (arith, le, starts))
      (λ w among. lefts w (inr among))
      (λ w among. follows_on a b v w (follow w (inr among)) (turn.0 w among)) turn.1 in (
        (first_point a b v le mine here, again.0),
        (λ x among. by x among again.1),
      )
    where
      by : (x : Item) → IsAmong x (points a b (v ∷ rest))
          → ((y : Item) → IsAmong y (points (max a (window v).put_from) (max b (window v).take_from) rest) → IsWithin y)
          → IsWithin x
      by x (inl same) again = subst IsWithin same (first_within a b v (lefts v (inl refl)) (follow v (inl refl)))
      by x (inr later) again = again x later

  -- what each move is, by its value
  pub data IsPassing (m : Move) : Type 0 where
    passing_put : (v : ℕ) → IsLeft n left v → is_empty v ≡ false → put v ≡ m.step → (window v).put_from ≤ m.point
        → m.point ≤ (window v).put_to → IsPassing m
    passing_got : (v : ℕ) → IsLeft n left v → is_empty v ≡ false → got (taker v) v ≡ m.step
        → (window v).take_from ≤ m.point → m.point ≤ (window v).take_to → m.point < never → IsPassing m
    passing_nothing : (v : ℕ) → IsLeft n left v → is_empty v ≡ true → nothing v ≡ m.step
        → (window v).put_from ≤ m.point → m.point ≤ (window v).put_to → IsPassing m

  -- all that is left goes through the queue
  pub record Passes : Type 0 where
    pub moves : List Move
    pub runs : Runs [] (steps_of moves)
    pub ascend : Ascend 0 moves
    pub apart : AreApart moves
    pub members : (m : Move) → IsAmong m moves → IsPassing m
    pub puts : (v : ℕ) → IsLeft n left v → is_empty v ≡ false → IsAmong (put v) (steps_of moves)
    pub gots : (v : ℕ) → IsLeft n left v → is_empty v ≡ false → (window v).take_to < never
        → IsAmong (got (taker v) v) (steps_of moves)
    pub nothings : (v : ℕ) → IsLeft n left v → is_empty v ≡ true → IsAmong (nothing v) (steps_of moves)

  step_among : (m : Move) (moves : List Move) → IsAmong m moves → IsAmong m.step (steps_of moves)
  step_among m [] among = among
  step_among m (x ∷ moves) (inl same) = inl (ap (λ (y : Move). y.step) same)
  step_among m (x ∷ moves) (inr later) = inr (step_among m moves later)

  record HasItem (v : ℕ) (items : List Item) : Type 0 where
    item : Item
    among : IsAmong item items
    is : item.value ≡ v

  item_of : (v : ℕ) (items : List Item) → IsAmong v (values_of items) → HasItem v items
  item_of v [] among = absurd among
  item_of v (x ∷ items) (inl same) = record { item = x; among = inl refl; is = same }
  item_of v (x ∷ items) (inr later) =
      let has : HasItem v items = item_of v items later in
      record { item = has.item; among = inr has.among; is = has.is }

  value_in : (x : Item) (items : List Item) → IsAmong x items → IsAmong x.value (values_of items)
  value_in x [] among = among
  value_in x (y ∷ items) (inl same) = inl (ap (λ (z : Item). z.value) same)
  value_in x (y ∷ items) (inr later) = inr (value_in x items later)

  pub pass : (line : List ℕ) → IsLine n window left line → Passes
  pass line is_line = record {
    moves = is.moves;
    runs = is.runs;
    ascend = is.ascend;
    apart = is.apart;
    members = λ m among. passing m (is.members m among);
    puts = λ v is_left full. let has : HasItem v (points 0 0 line) = has_of v is_left in
        subst (λ (w : ℕ). IsAmong (put w) (steps_of is.moves)) has.is
        (step_among (put_of is_empty taker never has.item) is.moves (is.puts has.item has.among (full_of v has full)));
    gots = λ v is_left full early. let has : HasItem v (points 0 0 line) = has_of v is_left in
        subst (λ (w : ℕ). IsAmong (got (taker w) w) (steps_of is.moves)) has.is
        (step_among (got_of is_empty taker never has.item) is.moves (is.gots has.item (inr has.among) (full_of v has full)
        (early_of v has early)));
    nothings = λ v is_left empty. let has : HasItem v (points 0 0 line) = has_of v is_left in
        subst (λ (w : ℕ). IsAmong (nothing w) (steps_of is.moves)) has.is
        (step_among (nothing_of is_empty taker never has.item) is.moves (is.nothings has.item has.among (full_of v has empty)));
  }
    where
      all : ArePointed is_empty taker never 0 0 (points 0 0 line)
          × ((x : Item) → IsAmong x (points 0 0 line) → IsWithin x)
      all = pointed 0 0 line (omega arith) is_line.those (λ v among. record { puts = omega arith; takes = omega arith })
          is_line.in_turn

      is : Merged is_empty taker never 0 [] (points 0 0 line)
      is = merged is_empty taker never (2 * length (points 0 0 line)) 0 [] (points 0 0 line) (omega arith) tt all.0
          (subst (λ (vs : List ℕ). AreDifferent vs) (sym (values_points 0 0 line)) is_line.different)

      left_of : (x : Item) → IsAmong x (points 0 0 line) → IsLeft n left x.value
      left_of x among = is_line.those x.value (subst (λ (vs : List ℕ). IsAmong x.value vs) (values_points 0 0 line)
          (value_in x (points 0 0 line) among))

      has_of : (v : ℕ) → IsLeft n left v → HasItem v (points 0 0 line)
      has_of v is_left = item_of v (points 0 0 line)
          (subst (λ (vs : List ℕ). IsAmong v vs) (sym (values_points 0 0 line)) (is_line.each v is_left))

      full_of : {b : Bool} (v : ℕ) → (has : HasItem v (points 0 0 line)) → is_empty v ≡ b → is_empty has.item.value ≡ b
      full_of v has full = ap is_empty has.is ∙ full

      early_of : (v : ℕ) → (has : HasItem v (points 0 0 line)) → (window v).take_to < never → has.item.take_at < never
      early_of v has early =
          let until : has.item.take_at ≤ (window has.item.value).take_to = (all.1 has.item has.among).take_until in
          let same : (window has.item.value).take_to ≡ (window v).take_to = ap (λ (w : ℕ). (window w).take_to) has.is in
          omega (arith, until, same, early)

      passing : (m : Move) → IsMoveOf is_empty taker never [] (points 0 0 line) m → IsPassing m
      passing m (is_put x among full same) =
          subst IsPassing same (passing_put x.value (left_of x among) full refl (all.1 x among).put_since
          (all.1 x among).put_until)
      passing m (is_got x (inl among) full early same) = absurd among
      passing m (is_got x (inr among) full early same) =
          subst IsPassing same (passing_got x.value (left_of x among) full refl (all.1 x among).take_since
          (all.1 x among).take_until early)
      passing m (is_nothing x among empty same) =
          subst IsPassing same (passing_nothing x.value (left_of x among) empty refl (all.1 x among).put_since
          (all.1 x among).put_until)
