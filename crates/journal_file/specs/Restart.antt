-- What a journal is read as after a stop of the machine.
use Rattle.std.specs.Prelude.{◌≡◌, ◌⊎◌, ℕ, ◌≤◌, List, ◌++◌, Some, IfSome, length, take}
use Rattle.journal.specs.Frame.{Batch}
use Rattle.journal.specs.Journal.{words_after}
use Rattle.journal.specs.Reading.{ReadsAs}
use Rattle.journal.specs.Stops.{LeftByStop}
use Rattle.journal_file.specs.OnDevice.{OnDevice}

-- bytes are read as the words after a beginning of the batches, which has so many of them at least
pub record ReadsBeginning (key base : List ℕ) (batches : List Batch) (count : ℕ) (bytes : List ℕ) : Type 0 where
  pub whole : ℕ
  pub those : count ≤ whole
  pub some : whole ≤ length batches
  pub cut : ℕ
  pub read : ReadsAs key (words_after (take whole batches) base) cut bytes

-- whatever a stop leaves of it is read so
abbrev pub EachStopHas : List ℕ → List ℕ → List Batch → ℕ → OnDevice → Type 0
EachStopHas key base batches count j =
    (left : List ℕ) → LeftByStop key base batches j.kept left → ReadsBeginning key base batches count left

-- whatever is left of what stands at its place, from the front on and all that was kept at least, is read so
abbrev pub EachKillHas : List ℕ → List ℕ → List Batch → ℕ → OnDevice → Type 0
EachKillHas key base batches count j =
    (bytes : List ℕ) (n : ℕ) → j.appended ≡ Some bytes → j.lasting ≤ n
    → ReadsBeginning key base batches count (take n bytes)

-- they are read as one batch more at most
abbrev pub ReadsOneMore : (key base : List ℕ) → List Batch → ℕ → List ℕ → Type 0
ReadsOneMore key base batches count bytes =
    (more : List Batch) × (length more ≤ 1) × ReadsBeginning key base (batches ++ more) count bytes

-- they are read as these words, under some key, and nothing is cut off
abbrev pub IsReadAnew : List ℕ → List ℕ → Type 0
IsReadAnew words bytes = (key : List ℕ) × ReadsAs key words 0 bytes

-- so it is there, but that there may be one batch more; or all that stands there is read as its words
abbrev pub EachKillMayHaveMore : List ℕ → List ℕ → List Batch → ℕ → OnDevice → Type 0
EachKillMayHaveMore key base batches count j =
    (bytes : List ℕ) (n : ℕ) → j.appended ≡ Some bytes → j.lasting ≤ n
    → ReadsOneMore key base batches count (take n bytes) ⊎ IsReadAnew j.words bytes

-- what stands at its place is read as its words, and nothing is cut off
abbrev pub IsReadWhole : List ℕ → List ℕ → List Batch → ℕ → OnDevice → Type 0
IsReadWhole key base batches count j = IfSome j.appended (ReadsAs key j.words 0)
