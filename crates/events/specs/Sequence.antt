-- Lists that histories and orders are made of.
use Rattle.std.specs.Prelude.{ℕ, List}

-- the items, and how many more there is room for
pub record Stored (X : Type 0) : Type 0 where
  pub items : List X
  pub room : ℕ
