-- What is known of a row by its teller, and by a mark.
use Rattle.std.specs.Prelude.{List}
use Rattle.atomic_table.specs.Seated.{TableId}

-- which row it is, and these of its entries: all, or those that it begins with
pub record Known (E : Type 0) : Type 0 where
  pub row : TableId
  pub entries : List E
