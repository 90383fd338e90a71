-- What a stop of the machine leaves of a journal.
use Rattle.std.specs.Prelude.{◌≡◌, ℕ, ◌≤◌, false, List, ◌++◌, length, take}
use Rattle.journal.specs.Frame.{Batch}
use Rattle.journal.specs.Journal.{IsJournal, journal_of, end_sum, words_after}
use Rattle.journal.specs.Reading.{Read, ReadsAs, goes_on}

-- a journal of these batches does not go on with a whole frame here
abbrev pub IsTorn : List ℕ → List ℕ → List Batch → List ℕ → Type 0
IsTorn key base batches tail = goes_on key (end_sum key base batches) (length base) tail ≡ false

-- with this behind it, it is read as the words after its batches, and this is cut off
abbrev pub ReadsWithout : List ℕ → List ℕ → List Batch → List ℕ → Type 0
ReadsWithout key base batches tail =
    ReadsAs key (words_after batches base) (length tail) (journal_of key base batches ++ tail)

-- so many batches are whole, and at least the kept bytes; what follows them does not go on with a whole frame
pub record LeavesBatches (key base : List ℕ) (batches : List Batch) (kept : ℕ) (bytes : List ℕ)
    (whole : ℕ) (tail : List ℕ) : Type 0 where
  pub some : whole ≤ length batches
  pub those_kept : kept ≤ length (journal_of key base (take whole batches))
  pub text : bytes ≡ journal_of key base (take whole batches) ++ tail
  pub torn : IsTorn key base (take whole batches) tail

-- what a stop leaves of a journal of which so many bytes were kept
abbrev pub LeftByStop : List ℕ → List ℕ → List Batch → ℕ → List ℕ → Type 0
LeftByStop key base batches kept bytes =
    (whole : ℕ) × (tail : List ℕ) × LeavesBatches key base batches kept bytes whole tail

-- cut off anywhere behind its first batches, it is what a stop may leave that takes nothing of these
abbrev pub EachCutIsLeft : List ℕ → List ℕ → List Batch → Type 0
EachCutIsLeft key base batches =
    (n kept : ℕ) → length (journal_of key base (take kept batches)) ≤ n
    → LeftByStop key base batches (length (journal_of key base (take kept batches)))
    (take n (journal_of key base batches))

-- whatever a stop leaves of it is read as the words after the batches that are whole, and the tail is cut off
abbrev pub EachStopIsRead : List ℕ → List ℕ → List Batch → Type 0
EachStopIsRead key base batches =
    (kept : ℕ) (bytes : List ℕ) (whole : ℕ) (tail : List ℕ) → LeavesBatches key base batches kept bytes whole tail
    → ReadsAs key (words_after (take whole batches) base) (length tail) bytes

-- bytes that are a journal and a tail were read as this
pub record IsReadOf (bytes : List ℕ) (read : Read) (base : List ℕ) (batches : List Batch) (tail : List ℕ) : Type 0 where
  pub journal : IsJournal read.key base batches
  pub text : bytes ≡ journal_of read.key base batches ++ tail
  pub words : read.words ≡ words_after batches base
  pub cut : read.cut ≡ length tail
  pub torn : IsTorn read.key base batches tail

-- they are some journal and a tail, and were read as this
abbrev pub IsReadOfSome : List ℕ → Read → Type 0
IsReadOfSome bytes read =
    (base : List ℕ) × (batches : List Batch) × (tail : List ℕ) × IsReadOf bytes read base batches tail
