-- A journal's file and the one beside it, and what the calls of a file system do to them.
use Rattle.std.specs.Prelude.{◌≡◌, ◌⊎◌, ◌-◌, ◌≤◌, ◌++◌, [], ℕ, Bool, true, false, List, Option, Some, None, Err, length, replicate, take, option_map, IfSome, IsSomeAnd}
use Rattle.words.specs.declared.refusal.Refusal.TheVariants.{BadMagic}
use Rattle.journal.specs.declared.fault.Fault.TheVariants.{Refused}
use Rattle.journal.specs.Reading.{reading}
use Rattle.journal_store.specs.declared.folder.FileName.{FileName}
use Rattle.journal_store.specs.declared.folder.FileName.TheVariants.{Fresh, Journal}

-- a file: what was written to it, how many zeros follow, and how many bytes of what was written no stop of the machine
-- takes away
pub record File : Type 0 where
  pub text : List ℕ
  pub room : ℕ
  pub kept : ℕ

-- the file that has the journal's name, if there is one, and whether no stop of the machine gives the name to another
pub record Place : Type 0 where
  pub file : Option File
  pub named : Bool

-- and the one beside it that is to have the name, if there is one
pub record Files : Type 0 where
  pub place : Place
  pub fresh : Option File

-- all bytes of a file
abbrev pub bytes_of : File → List ℕ
bytes_of f = f.text ++ replicate f.room 0

abbrev pub file_of : FileName → Files → Option File
file_of Journal fs = fs.place.file
file_of Fresh fs = fs.fresh

-- the file of this name is changed so
abbrev pub changed : FileName → (File → File) → Files → Files
changed Journal change fs = record fs { place = record fs.place { file = option_map change fs.place.file } }
changed Fresh change fs = record fs { fresh = option_map change fs.fresh }

-- ---- what the calls do

-- the fresh file is an empty one
abbrev pub created : Files → Files
created fs = record fs { fresh = Some (record { text = []; room = 0; kept = 0 }) }

-- these bytes are written behind what was written
abbrev pub written : List ℕ → File → File
written bytes f = record f { text = f.text ++ bytes; room = f.room - length bytes }

-- a file has so many bytes, no fewer than were written
abbrev pub lengthened : ℕ → File → File
lengthened size f = record f { room = size - length f.text }

-- what was written is kept
abbrev pub synced : File → File
synced f = record f { kept = length f.text }

-- the fresh file has the journal's name; but a stop may give it back
abbrev pub renamed : Files → Files
renamed fs = record { place = record { file = fs.fresh; named = false }; fresh = None }

-- the names are kept as they are
abbrev pub names_kept : Files → Files
names_kept fs = record fs { place = record fs.place { named = true } }

-- ---- what is known after them

-- the journal's file and its name stay
abbrev pub LeavesPlace : Option Files → Option Files → Type 0
LeavesPlace old new = option_map (λ fs. fs.place) new ≡ option_map (λ fs. fs.place) old

-- a beginning of the bytes was written
abbrev pub WritesPart : FileName → List ℕ → Option Files → Option Files → Type 0
WritesPart name bytes old new = (n : ℕ) × (new ≡ option_map (changed name (written (take n bytes))) old)

-- the fresh file has the journal's name, or all stays
abbrev pub MayRename : Option Files → Option Files → Type 0
MayRename old new = (new ≡ old) ⊎ (new ≡ option_map renamed old)

-- no more than so many bytes were written to the file
abbrev pub IsWithin : FileName → ℕ → Option Files → Type 0
IsWithin name size files = IfSome files (λ fs. IfSome (file_of name fs) (λ f. length f.text ≤ size))

-- they are the bytes of the file, or some that are no journal's
abbrev pub IsReadFrom : List ℕ → List ℕ → Type 0
IsReadFrom all bytes = (bytes ≡ all) ⊎ (reading bytes ≡ Err (Refused BadMagic))

-- what is read of a file, if there is one
abbrev pub IsReadOf : Option File → Option (List ℕ) → Type 0
IsReadOf None read = read ≡ None
IsReadOf (Some f) read = IsSomeAnd read (IsReadFrom (bytes_of f))

-- what is read of the journal's file, where that is known
abbrev pub IsReadThere : Option Files → Option (List ℕ) → Type 0
IsReadThere files read = IfSome files (λ fs. IsReadOf fs.place.file read)
