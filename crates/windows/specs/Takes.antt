-- Takes for values that may each have one of a range of them. Takes have numbers.
use Rattle.std.specs.Prelude.{ℕ, ◌≡◌, ◌<◌, ◌≤◌, ◌-◌, Bool, ◌&&◌, nat_le, nat_lt}
use Rattle.windows.specs.Counting.{how_many}
use Rattle.windows.specs.Windows.{IsLeft}

-- each of the values that are left is given a take of its own, from its low one on and before its high one; and of two
-- values the earlier one the earlier take, where its range begins and ends no later
pub record AreGiven (n : ℕ) (left : ℕ → Bool) (low high give : ℕ → ℕ) : Type 0 where
  pub since : (v : ℕ) → IsLeft n left v → low v ≤ give v
  pub before : (v : ℕ) → IsLeft n left v → give v < high v
  pub different : (v w : ℕ) → IsLeft n left v → IsLeft n left w → give v ≡ give w → v ≡ w
  pub in_turn : (v w : ℕ) → IsLeft n left v → IsLeft n left w → v < w → low v ≤ low w → high v ≤ high w
      → give v < give w

-- the value is left, and may have no take but those from one number on and before another
abbrev pub lies_within : (ℕ → Bool) → (ℕ → ℕ) → (ℕ → ℕ) → ℕ → ℕ → ℕ → Bool
lies_within left low high from to v = left v && (nat_le from (low v) && nat_le (high v) to)

-- there are more such values than takes
abbrev pub IsOverfull : ℕ → (ℕ → Bool) → (ℕ → ℕ) → (ℕ → ℕ) → ℕ → ℕ → Type 0
IsOverfull n left low high from to = to - from < how_many (lies_within left low high from to) n

-- m takes, of which none begins before an earlier one, nor ends before it
pub record AreSorted (m : ℕ) (begins ends : ℕ → ℕ) : Type 0 where
  pub by_begin : (i j : ℕ) → i < j → j < m → begins i ≤ begins j
  pub by_end : (i j : ℕ) → i < j → j < m → ends i ≤ ends j

-- how many of them are over by a place, and how many begin before it
abbrev pub over_by : ℕ → (ℕ → ℕ) → ℕ → ℕ
over_by m ends place = how_many (λ k. nat_le (ends k) place) m

abbrev pub begun_before : ℕ → (ℕ → ℕ) → ℕ → ℕ
begun_before m begins place = how_many (λ k. nat_lt (begins k) place) m
