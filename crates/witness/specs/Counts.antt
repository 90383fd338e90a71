-- Counts that are kept in 64 bits.
use Rattle.std.specs.Prelude.{◌≤◌, ◌<◌, ℕ}

-- a count of so many: it stays at the greatest number of 64 bits once it is there, and says then of how many at least
pub record IsCountOf (count all : ℕ) : Type 0 where
  pub part : count ≤ all
  pub whole : count < 18446744073709551615 → all ≤ count
