-- The entries of a chronicle.
use Rattle.std.specs.Prelude.{List, ◌++◌}

-- those that are settled, and those behind them, which are not yet
pub record Chronicled (E : Type 0) : Type 0 where
  pub settled : List E
  pub unsettled : List E

-- all of them, in the order in which they were noted
abbrev pub entries : {E : Type 0} → Chronicled E → List E
entries chronicle = chronicle.settled ++ chronicle.unsettled
