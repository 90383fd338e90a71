-- What the calls of a reader and a writer do, besides std's words.
use Rattle.std.specs.Prelude.{◌≡◌, ◌++◌, ℕ, List, [], ◌∷◌, Option, Some, None, Result, Ok, Err, ⊤}
use Rattle.std.specs.Io.KnownBytes.{Appends, Consumes, IsAtEnd}

-- a call fails once, or not at all
abbrev pub failures_of : {A E : Type 0} → Result A E → ℕ
failures_of (Ok x) = 0
failures_of (Err e) = 1

-- all known bytes that were written were flushed
abbrev pub IsFlushed : Option (List ℕ) → Option (List ℕ) → Type 0
IsFlushed None flushed = ⊤
IsFlushed (Some bytes) None = ⊤
IsFlushed (Some bytes) (Some flushed) = flushed ≡ bytes

-- known bytes grow by a beginning of these
abbrev pub AppendsBeginning : Option (List ℕ) → Option (List ℕ) → List ℕ → Type 0
AppendsBeginning old new bytes =
    (sent : List ℕ) × (unsent : List ℕ) × (bytes ≡ sent ++ unsent) × Appends old new sent

-- a byte is the first of the known ones, and there is none only where none is left
abbrev pub GivesNext : Option (List ℕ) → Option (List ℕ) → Option ℕ → Type 0
GivesNext old new None = IsAtEnd old
GivesNext old new (Some byte) = Consumes old new (byte ∷ [])
