-- Which bytes are a secret.
use Rattle.std.specs.Prelude.{◌≡◌, ◌≢◌, ◌⊎◌, ◌≤◌, ◌<◌, ◌++◌, ◌∷◌, [], ℕ, List, Bool, IsTrue, IsUtf8, length, nat_le}
use Rattle.std.specs.List.{list_all}
use Rattle.door.specs.declared.secret.TheConstants.{MAX_SECRET, MIN_SECRET}
use Rattle.door.specs.declared.secret.Unfit.{Unfit}
use Rattle.door.specs.declared.secret.Unfit.TheVariants.{NoText, TooLong, TooShort}

-- these are the bytes without the newline at their end, if one is there
abbrev pub IsWithoutNewline : List ℕ → List ℕ → Type 0
IsWithoutNewline bytes text =
    (bytes ≡ text ++ 10 ∷ []) ⊎ ((bytes ≡ text) × ((before : List ℕ) → bytes ≢ before ++ 10 ∷ []))

-- none of the bytes is below the space
abbrev pub is_printed : List ℕ → Bool
is_printed bytes = list_all (λ byte. nat_le 32 byte) bytes

pub record IsFit (bytes : List ℕ) : Type 0 where
  pub long : MIN_SECRET ≤ length bytes
  pub short : length bytes ≤ MAX_SECRET
  pub printed : IsTrue (is_printed bytes)
  pub text : IsUtf8 bytes

-- why bytes are no secret
abbrev pub IsUnfit : List ℕ → Unfit → Type 0
IsUnfit bytes TooShort = length bytes < MIN_SECRET
IsUnfit bytes TooLong = MAX_SECRET < length bytes
IsUnfit bytes NoText = ¬ (IsTrue (is_printed bytes) × IsUtf8 bytes)

-- why those of a file are none
abbrev pub IsUnfitFile : List ℕ → Unfit → Type 0
IsUnfitFile bytes why = (text : List ℕ) × IsWithoutNewline bytes text × IsUnfit text why
