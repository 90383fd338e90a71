-- Journals in a storage.
use Rattle.std.specs.Prelude.{◌≡◌, ◌⊎◌, ℕ, ◌≤◌, ◌<◌, Bool, true, false, List, [], ◌∷◌, ◌++◌, Option, length, take, IfSome}
use Rattle.words.specs.declared.refusal.Refusal.{Refusal}
use Rattle.words.specs.declared.refusal.Refusal.TheVariants.{BadCount, NoMemory, NoRoom, WriteFailed}
use Rattle.persist.specs.Image.{AreWords}
use Rattle.persist.specs.declared.access.Change.{Change}
use Rattle.journal.specs.Frame.{Batch}
use Rattle.journal.specs.Journal.{End, IsJournal, MayNotBegin, MayRefuseFrame, end_of, journal_of, words_after}
use Rattle.journal_file.specs.declared.on_device.TheConstants.{MAX_SIZE}

-- a journal with its storage, as contracts see it
pub record OnDevice : Type 0 where
  -- the words after all its batches
  pub words : List ℕ
  -- where it goes on
  pub end : End
  -- how many bytes it has, and how many of them were there when all were last kept
  pub size : ℕ
  pub kept : ℕ
  -- what stands at the place, how many bytes of that no stop takes away, and whether the storage has failed
  pub appended : Option (List ℕ)
  pub lasting : ℕ
  pub failed : Bool

-- it goes on behind the last of these batches, and at the place stands their journal, which has what was kept
pub record GoesOn (key base : List ℕ) (batches : List Batch) (j : OnDevice) : Type 0 where
  pub end : j.end ≡ end_of key base batches
  pub text : IfSome j.appended (λ bytes. bytes ≡ journal_of key base batches)
  pub lasting : IfSome j.appended (λ bytes. j.kept ≤ j.lasting)

-- bytes are the journal of these batches, and a part of a frame more
pub record HasPart (key base : List ℕ) (batches : List Batch) (bytes : List ℕ) : Type 0 where
  pub more : List Batch
  pub one : length more ≤ 1
  pub journal : IsJournal key base (batches ++ more)
  pub n : ℕ
  pub whole : length (journal_of key base batches) ≤ n
  pub text : bytes ≡ take n (journal_of key base (batches ++ more))

-- bytes are a journal of these words, under another key, and of no batch
pub record IsAnew (words bytes : List ℕ) : Type 0 where
  pub key : List ℕ
  pub journal : IsJournal key words []
  pub text : bytes ≡ journal_of key words []

-- what stands at the place once the storage has failed: the journal of these batches and a part of a frame more, which
-- has what was kept; or one of the same words that was to take its place, and was not seen to
abbrev pub IsLeftThere : (key base : List ℕ) → List Batch → OnDevice → List ℕ → Type 0
IsLeftThere key base batches j bytes = HasPart key base batches bytes × (j.kept ≤ j.lasting) ⊎ IsAnew j.words bytes

-- it is the journal of this key, these words and these batches, of which so many were there when all was last kept
pub record IsOf (key base : List ℕ) (batches : List Batch) (count : ℕ) (j : OnDevice) : Type 0 where
  pub journal : IsJournal key base batches
  pub words : j.words ≡ words_after batches base
  pub size : j.size ≡ length (journal_of key base batches)
  pub some : count ≤ length batches
  pub kept : j.kept ≡ length (journal_of key base (take count batches))
  pub going : j.failed ≡ false → GoesOn key base batches j
  pub over : j.failed ≡ true → IfSome j.appended (IsLeftThere key base batches j)

-- it is a journal
abbrev pub IsSomeJournal : OnDevice → Type 0
IsSomeJournal j = (key base : List ℕ) × (batches : List Batch) × (count : ℕ) × IsOf key base batches count j

-- what is said of a journal in a storage, with its key, its first words and its batches, and how many of these were
-- there when all was last kept
abbrev pub Saying : Type 1
Saying = (key base : List ℕ) → List Batch → ℕ → OnDevice → Type 0

-- so it is of each journal (`IsOf`, in every law below); of each whose storage has not failed (`failed` is false); of each
-- whose storage has
abbrev pub IsSoOfEach : Saying → Type 0
IsSoOfEach IsSo =
    (key base : List ℕ) (batches : List Batch) (count : ℕ) (j : OnDevice)
    → IsOf key base batches count j → IsSo key base batches count j

abbrev pub IsSoOfRunning : Saying → Type 0
IsSoOfRunning IsSo =
    (key base : List ℕ) (batches : List Batch) (count : ℕ) (j : OnDevice)
    → IsOf key base batches count j → j.failed ≡ false → IsSo key base batches count j

abbrev pub IsSoOfFailed : Saying → Type 0
IsSoOfFailed IsSo =
    (key base : List ℕ) (batches : List Batch) (count : ℕ) (j : OnDevice)
    → IsOf key base batches count j → j.failed ≡ true → IsSo key base batches count j

-- it has this batch more
abbrev pub HasMore : Batch → OnDevice → OnDevice → Type 0
HasMore batch old new =
    (key base : List ℕ) (batches : List Batch) (count : ℕ)
    → IsOf key base batches count old → IsOf key base (batches ++ batch ∷ []) count new

-- all its batches are there now as all was last kept
abbrev pub KeepsAll : OnDevice → OnDevice → Type 0
KeepsAll old new =
    (key base : List ℕ) (batches : List Batch) (count : ℕ)
    → IsOf key base batches count old → IsOf key base batches (length batches) new

-- it has no batch more
abbrev pub HasNoMore : OnDevice → OnDevice → Type 0
HasNoMore old new =
    (key base : List ℕ) (batches : List Batch) (count : ℕ)
    → IsOf key base batches count old → IsOf key base batches count new

-- an append of these changes may be refused so: the storage fails now, or nothing changes
abbrev pub MayRefuseAppend : OnDevice → List Change → OnDevice → Refusal → Type 0
MayRefuseAppend old changes new e =
    (e ≡ WriteFailed) × (new.failed ≡ true)
    ⊎ (e ≡ NoRoom) × (MAX_SIZE < old.size) × (new ≡ old)
    ⊎ MayRefuseFrame (length old.words) changes e × (new ≡ old)

-- a journal of these words may be refused so: they are too few or too many, or memory is refused, or the storage fails
abbrev pub MayRefuseBegin : List ℕ → Refusal → Type 0
MayRefuseBegin words e =
    (e ≡ BadCount) × MayNotBegin words ⊎ (e ≡ NoMemory) × AreWords words ⊎ (e ≡ WriteFailed) × AreWords words
