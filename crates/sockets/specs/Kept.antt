-- What is kept of a line.
use Rattle.std.specs.Prelude.{◌≡◌, ◌++◌, ℕ, List}

-- the bytes go on from these
abbrev pub GoesOn : List ℕ → List ℕ → Type 0
GoesOn old new = (more : List ℕ) × (new ≡ old ++ more)
