-- Journals: the words that a file begins on, and all changes since, as bytes.
use Rattle.std.specs.Prelude.{◌≡◌, ◌⊎◌, ℕ, ◌<◌, List, [], ◌∷◌, ◌++◌, length, codes, All}
use Rattle.std.specs.List.{flat_map}
use Rattle.words.specs.declared.refusal.Refusal.{Refusal}
use Rattle.words.specs.declared.refusal.Refusal.TheVariants.{BadCount, NoMemory, NoWord}
use Rattle.persist.specs.declared.access.Change.{Change}
use Rattle.persist.specs.declared.memory.TheConstants.{MAX_WORDS}
use Rattle.persist.specs.Image.{AreWords, image_of}
use Rattle.persist.specs.Noted.{applied}
use Rattle.journal.specs.declared.format.TheConstants.{KEY_BYTES, MAX_CHANGES}
use Rattle.journal.specs.Sum.{sum_of}
use Rattle.journal.specs.Frame.{Batch, IsBatchIn, frame_of, frame_sum, frames_of, last_sum}

-- what every journal begins with
abbrev pub magic : List ℕ
magic = codes "PQJ1"

-- the head but for its sum: the magic, the image of the words that the file begins on, and the key of its sums
abbrev pub head_front : List ℕ → List ℕ → List ℕ
head_front key base = magic ++ image_of base ++ key

abbrev pub head_sum : List ℕ → List ℕ → List ℕ
head_sum key base = sum_of key (head_front key base)

abbrev pub head_of : List ℕ → List ℕ → List ℕ
head_of key base = head_front key base ++ head_sum key base

-- the head, and a frame of each batch
abbrev pub journal_of : List ℕ → List ℕ → List Batch → List ℕ
journal_of key base batches = head_of key base ++ frames_of key (head_sum key base) batches

-- where a journal goes on: its key, the sum that the next frame goes on from, and of how many words it is
pub record End : Type 0 where
  pub key : List ℕ
  pub sum : List ℕ
  pub size : ℕ

-- the sum that the next frame goes on from
abbrev pub end_sum : List ℕ → List ℕ → List Batch → List ℕ
end_sum key base batches = last_sum key (head_sum key base) batches

abbrev pub end_of : List ℕ → List ℕ → List Batch → End
end_of key base batches = record { key = key; sum = end_sum key base batches; size = length base }

-- the frame of a batch more
abbrev pub frame_behind : End → Batch → List ℕ
frame_behind end batch = frame_of end.key end.sum batch

-- where the journal goes on behind it
abbrev pub end_behind : End → Batch → End
end_behind end batch = record { key = end.key; sum = frame_sum end.key end.sum batch; size = end.size }

-- no journal begins on these: there is no word, or there are more than a memory has
abbrev pub MayNotBegin : List ℕ → Type 0
MayNotBegin words = (length words ≡ 0) ⊎ (MAX_WORDS < length words)

-- why none begins on them
abbrev pub MayRefuseBase : List ℕ → Refusal → Type 0
MayRefuseBase words refusal = (refusal ≡ BadCount) × MayNotBegin words ⊎ (refusal ≡ NoMemory) × AreWords words

-- no frame has these: there are none, or there are too many
abbrev pub AreNoBatch : List Change → Type 0
AreNoBatch changes = (length changes ≡ 0) ⊎ (MAX_CHANGES < length changes)

-- each is of one of so many words
abbrev pub AreOfWords : ℕ → List Change → Type 0
AreOfWords size changes = All (λ change. change.word < size) changes

-- a frame of these changes may be refused so, where the journal is of so many words
abbrev pub MayRefuseFrame : ℕ → List Change → Refusal → Type 0
MayRefuseFrame size changes e =
    (e ≡ BadCount) × AreNoBatch changes
    ⊎ (e ≡ NoWord) × (¬ AreOfWords size changes)
    ⊎ (e ≡ NoMemory) × AreOfWords size changes

-- words after all batches
abbrev pub words_after : List Batch → List ℕ → List ℕ
words_after [] words = words
words_after (batch ∷ batches) words = words_after batches (applied batch.changes words)

-- all changes of batches, one after another
abbrev pub changes_of : List Batch → List Change
changes_of batches = flat_map (λ batch. batch.changes) batches

-- a compaction: the journal under another key that begins on the words after these batches, and has none
abbrev pub compacted : List ℕ → List ℕ → List Batch → List ℕ
compacted other base batches = journal_of other (words_after batches base) []

-- a key, words and batches of which a journal is made
pub record IsJournal (key base : List ℕ) (batches : List Batch) : Type 0 where
  pub key_long : length key ≡ KEY_BYTES
  pub base_words : AreWords base
  pub each_batch : All (IsBatchIn (length base)) batches
