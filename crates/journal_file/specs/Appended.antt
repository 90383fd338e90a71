-- What the calls of a storage do.
use Rattle.std.specs.Prelude.{◌≡◌, ◌⊎◌, ◌≤◌, ℕ, List, Option, length, take, IfSome}
use Rattle.std.specs.Io.KnownBytes.{append_known}

-- known bytes grow by a beginning of these
abbrev pub AppendsPart : Option (List ℕ) → Option (List ℕ) → List ℕ → Type 0
AppendsPart old new bytes = (n : ℕ) × (new ≡ append_known old (take n bytes))

-- of known bytes all are kept
abbrev pub IsAllKept : Option (List ℕ) → ℕ → Type 0
IsAllKept appended kept = IfSome appended (λ bytes. length bytes ≤ kept)

-- known bytes are just these
abbrev pub IsJust : Option (List ℕ) → List ℕ → Type 0
IsJust appended bytes = IfSome appended (λ all. all ≡ bytes)

-- and all of them are kept
abbrev pub HasJust : Option (List ℕ) → ℕ → List ℕ → Type 0
HasJust appended kept bytes = IsJust appended bytes × IsAllKept appended kept

-- what stood at a place stands there still; or known bytes are just these
abbrev pub HasEither : Option (List ℕ) → ℕ → Option (List ℕ) → ℕ → List ℕ → Type 0
HasEither old old_kept new new_kept bytes = (new ≡ old) × (new_kept ≡ old_kept) ⊎ IsJust new bytes
