-- How many numbers pass a test.
use Rattle.std.specs.Prelude.{ℕ, zero, suc, ◌+◌, Bool, if◌then◌else◌}

-- of the numbers below n
abbrev pub how_many : (ℕ → Bool) → ℕ → ℕ
how_many passes zero = 0
how_many passes (suc n) = how_many passes n + (if passes n then 1 else 0)
