-- A journal's file as a storage.
use Rattle.std.specs.Prelude.{◌≡◌, ◌⊎◌, ◌≤◌, [], ℕ, Bool, true, false, if◌then◌else◌, List, Option, Some, None, length, option_map, IfSome}
use Rattle.journal_store.specs.declared.folder.FileName.TheVariants.{Journal}
use Rattle.journal_store.specs.Folder.{File, Files, Place, changed, lengthened}

-- the files, and how many bytes were written to the journal's at most, and whether it has failed
pub record Stored : Type 0 where
  pub files : Option Files
  pub written : ℕ
  pub failed : Bool

abbrev pub text_of : Option File → List ℕ
text_of None = []
text_of (Some f) = f.text

abbrev pub kept_of : Option File → ℕ
kept_of None = 0
kept_of (Some f) = f.kept

-- how many bytes of the file that has the name no stop takes away: none, where a stop may give the name to another
abbrev pub kept_at : Option Place → ℕ
kept_at None = 0
kept_at (Some place) = if place.named then kept_of place.file else 0

-- what was written to the file that has the journal's name, and how much of it no stop takes away
abbrev pub text_in : Option Files → Option (List ℕ)
text_in files = option_map (λ place. text_of place.file) (option_map (λ fs. fs.place) files)

abbrev pub kept_in : Option Files → ℕ
kept_in files = kept_at (option_map (λ fs. fs.place) files)

-- a file has the journal's name for good, and so many bytes of it were written at most
pub record IsInUse (written : ℕ) (fs : Files) : Type 0 where
  pub file : File
  pub there : fs.place.file ≡ Some file
  pub within : length file.text ≤ written
  pub named : fs.place.named ≡ true

-- it is so of a storage that has not failed, where the files are known
abbrev pub IsStored : Stored → Type 0
IsStored s = s.failed ≡ false → IfSome s.files (IsInUse s.written)

-- the fresh file has just these bytes, all of them kept
abbrev pub IsFreshWith : List ℕ → Option Files → Type 0
IsFreshWith bytes files =
    IfSome files (λ fs. (room : ℕ) × (fs.fresh ≡ Some (record { text = bytes; room = room; kept = length bytes })))

-- the journal's file was made longer, or all stays
abbrev pub IsLonger : Option Files → Option Files → Type 0
IsLonger old new = (new ≡ old) ⊎ (size : ℕ) × (new ≡ option_map (changed Journal (lengthened size)) old)
