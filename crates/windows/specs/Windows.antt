-- From where to where values were put and taken, and which of them must go through the queue before which.
use Rattle.std.specs.Prelude.{ℕ, ◌≡◌, ◌<◌, ◌≤◌, ◌⊎◌, ⊤, Bool, true, List, [], ◌∷◌}
use Rattle.windows.specs.Lists.{IsAmong, AreDifferent}

-- the put of a value takes effect from one place up to another, and so does its take
pub record Window : Type 0 where
  pub put_from : ℕ
  pub put_to : ℕ
  pub take_from : ℕ
  pub take_to : ℕ

-- a put and a take that can take effect, the one before the other
pub record IsWindow (window : Window) : Type 0 where
  pub puts : window.put_from ≤ window.put_to
  pub takes : window.take_from ≤ window.take_to
  pub starts : window.put_from ≤ window.take_from
  pub ends : window.put_to ≤ window.take_to

-- the one value must go through the queue before the other: its put is over before the other's put begins, or its take
-- is over before the other's take begins
abbrev pub MustPrecede : Window → Window → Type 0
MustPrecede one other = (one.put_to < other.put_from) ⊎ (one.take_to < other.take_from)

-- one of the values that are left
pub record IsLeft (n : ℕ) (left : ℕ → Bool) (v : ℕ) : Type 0 where
  pub below : v < n
  pub is_left : left v ≡ true

-- those have windows, and no two of them must each go before the other
pub record HaveNoTwo (n : ℕ) (window : ℕ → Window) (left : ℕ → Bool) : Type 0 where
  pub windows : (v : ℕ) → IsLeft n left v → IsWindow (window v)
  pub no_two : (v w : ℕ) → IsLeft n left v → IsLeft n left w → MustPrecede (window v) (window w)
      → MustPrecede (window w) (window v) → ⊥

-- it is left, and none that is left must go before it
pub record MayGoNext (n : ℕ) (window : ℕ → Window) (left : ℕ → Bool) (v : ℕ) : Type 0 where
  pub is_left : IsLeft n left v
  pub none : (w : ℕ) → IsLeft n left w → MustPrecede (window w) (window v) → ⊥

-- none in the list must go before one that stands before it
abbrev pub AreInTurn : (ℕ → Window) → List ℕ → Type 0
AreInTurn window [] = ⊤
AreInTurn window (first ∷ rest) =
    ((w : ℕ) → IsAmong w rest → MustPrecede (window w) (window first) → ⊥) × AreInTurn window rest

-- a whole line of the values that are left: each of them once, in turn
pub record IsLine (n : ℕ) (window : ℕ → Window) (left : ℕ → Bool) (line : List ℕ) : Type 0 where
  pub each : (v : ℕ) → IsLeft n left v → IsAmong v line
  pub those : (v : ℕ) → IsAmong v line → IsLeft n left v
  pub different : AreDifferent line
  pub in_turn : AreInTurn window line
