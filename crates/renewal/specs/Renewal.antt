-- What a queue of this shape is to hold, and to tell its clients.
use Rattle.std.specs.Prelude.{ℕ, List, slice_index_or, []}
use Rattle.words.specs.PlainQueue.{Value}
use Rattle.words.specs.declared.told.Told.{Told}
use Rattle.words.specs.declared.told.Told.TheVariants.{None as told_none}
use Rattle.arena.specs.Shape.{Shape}

pub record Renewal : Type 0 where
  pub shape : Shape
  pub content : List Value
  pub tells : List Told

-- what a client is to be told, and the item at a place
abbrev pub told_in : Renewal → ℕ → Told
told_in r t = slice_index_or r.tells t told_none

abbrev pub item_in : Renewal → ℕ → Value
item_in r at = slice_index_or r.content at []
