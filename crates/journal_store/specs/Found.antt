-- What the bytes of a journal's file are taken for.
use Rattle.std.specs.Prelude.{◌≡◌, ◌≢◌, ◌-◌, ◌<◌, ◌≤◌, List, ℕ, Option, None, Some, drop, get_or, length, Ok, IfSome, IsSomeAnd}
use Rattle.journal.specs.Reading.{HidesKept, reading}
use Rattle.journal_store.specs.declared.found.Found.{Found}
use Rattle.journal_store.specs.Folder.{File, Files, bytes_of}

-- so many bytes are those up to the last one that is not 0
pub record EndsAt (bytes : List ℕ) (n : ℕ) : Type 0 where
  pub within : n ≤ length bytes
  pub last : 0 < n → get_or bytes (n - 1) 0 ≢ 0
  pub zeros : (i : ℕ) → n ≤ i → get_or bytes i 0 ≡ 0

-- they are a journal that leaves these words, so many bytes of which none was kept, and zeros
pub record IsFoundIn (bytes : List ℕ) (found : Found) : Type 0 where
  pub key : List ℕ
  pub cut : ℕ
  pub read : reading bytes ≡ Ok (record { key = key; words = found.words.items; cut = cut })
  pub torn : EndsAt (drop (length bytes - cut) bytes) found.torn
  pub unkept : 0 < found.torn → ¬ (HidesKept key (length bytes - cut) bytes)

-- what a file is taken for, if there is one
abbrev pub IsFoundOf : Option File → Option Found → Type 0
IsFoundOf None found = found ≡ None
IsFoundOf (Some f) found = IsSomeAnd found (IsFoundIn (bytes_of f))

-- what the journal's file is taken for, where that is known
abbrev pub IsFoundThere : Option Files → Option Found → Type 0
IsFoundThere files found = IfSome files (λ fs. IsFoundOf fs.place.file found)
