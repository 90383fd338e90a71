-- What kept words hold, and one node's part of it.
use Rattle.std.specs.Prelude.{◌≡◌, ℕ, List, [], ◌∷◌, ◌++◌, if◌then◌else◌, ◌==◌}
use Rattle.words.specs.PlainQueue.{Value}
use Rattle.arena.specs.Content.{kept_content}
use Rattle.arena.specs.Shape.{Shape}
use Rattle.arena.specs.Words.{marks, values}
use Rattle.arena.specs.declared.place.Place.{Place}
use Rattle.interleave.specs.Values.{value_of_place}

-- the value of a node, if it is not claimed
abbrev pub unclaimed_from : (Place → ℕ) → ℕ → List Value
unclaimed_from word n = if marks word n == 0 then values word n ∷ [] else []

-- the same of kept words
abbrev pub unclaimed_by : Shape → List ℕ → ℕ → List Value
unclaimed_by s kept n = unclaimed_from (value_of_place s kept) n

-- these values get that of the node, if it is not claimed
abbrev pub AddsValue : Shape → List ℕ → ℕ → List Value → List Value → Type 0
AddsValue s kept n old new = new ≡ old ++ unclaimed_by s kept n

-- what these kept words hold
abbrev pub content_by : Shape → List ℕ → List Value
content_by s kept = kept_content s (value_of_place s kept)
