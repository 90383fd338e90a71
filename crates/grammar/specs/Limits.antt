-- Numbers within limits.
use Rattle.std.specs.Prelude.{ℕ, ◌≤◌, ◌<◌, ◌^◌}
use Rattle.grammar.specs.declared.limits.Limits.{Limits}

-- from the least to the most, and below 2^64
pub record IsWithin (limits : Limits) (n : ℕ) : Type 0 where
  pub least : limits.least ≤ n
  pub most : n ≤ limits.most
  pub small : n < 2 ^ 64
