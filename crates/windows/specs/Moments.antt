-- Moments at which the queue is to be empty: by each the values that are in by then are to be taken.
use Rattle.std.specs.Prelude.{ℕ, ◌<◌, ◌≤◌, ◌-◌, Bool, ◌&&◌, min, nat_le, if◌then◌else◌, List, [], ◌∷◌}
use Rattle.windows.specs.Counting.{how_many}
use Rattle.windows.specs.Windows.{IsLeft}

-- the takes that a value may have end here, if the queue is to be empty at the moment: a value that is in by then has one of
-- those begun by then
abbrev pub high_at : (ℕ → ℕ) → (ℕ → ℕ) → (ℕ → ℕ) → ℕ → ℕ → ℕ
high_at high in_by begun moment v = if nat_le (in_by v) moment then min (high v) (begun moment) else high v

-- and if it is to be empty at each of the moments
abbrev pub high_at_all : (ℕ → ℕ) → (ℕ → ℕ) → (ℕ → ℕ) → List ℕ → ℕ → ℕ
high_at_all high in_by begun [] v = high v
high_at_all high in_by begun (moment ∷ rest) v =
    if nat_le (in_by v) moment
    then min (high_at_all high in_by begun rest v) (begun moment)
    else high_at_all high in_by begun rest v

-- the value is left, in by the moment, and may have no take but those from one number on
abbrev pub crowds : (ℕ → Bool) → (ℕ → ℕ) → (ℕ → ℕ) → ℕ → ℕ → ℕ → Bool
crowds left low in_by from moment v = left v && (nat_le from (low v) && nat_le (in_by v) moment)

-- there are more such values than takes from that number on begun by the moment
abbrev pub IsCrowded : ℕ → (ℕ → Bool) → (ℕ → ℕ) → (ℕ → ℕ) → (ℕ → ℕ) → ℕ → ℕ → Type 0
IsCrowded n left low in_by begun from moment = begun moment - from < how_many (crowds left low in_by from moment) n

-- of two values that are left the one that is in first has a range that ends no later
pub record EndsByIns (n : ℕ) (left : ℕ → Bool) (high in_by : ℕ → ℕ) : Type 0 where
  pub ends : (v w : ℕ) → IsLeft n left v → IsLeft n left w → in_by v < in_by w → high v ≤ high w
