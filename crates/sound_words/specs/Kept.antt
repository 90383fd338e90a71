-- The kept words of a queue, seen by their places.
use Rattle.std.specs.Prelude.{ℕ, List, slice_index}
use Rattle.arena.specs.Form.{running}
use Rattle.arena.specs.Layout.{word_in}
use Rattle.arena.specs.Shape.{Shape}
use Rattle.arena.specs.declared.form.Form.{Form}
use Rattle.arena.specs.declared.place.Place.{Place}

-- the values of the places, where the words are these
abbrev pub kept_by : Form → Shape → List ℕ → Place → ℕ
kept_by form s ws p = slice_index ws (word_in form s p)

abbrev pub kept_in : Shape → List ℕ → Place → ℕ
kept_in = kept_by running

-- a queue as its kept words have it
pub record Kept : Type 0 where
  pub form : Form
  pub shape : Shape
  pub words : List ℕ

abbrev pub kept_of : Kept → Place → ℕ
kept_of queue = kept_by queue.form queue.shape queue.words
