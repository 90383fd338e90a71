-- Frames: the changes that were made since the frame before, as bytes.
use Rattle.std.specs.Prelude.{ℕ, ◌+◌, ◌*◌, ◌^◌, ◌<◌, ◌≤◌, List, [], ◌∷◌, ◌++◌, length, All}
use Rattle.std.specs.Int.{w32, w64, to_le_bytes}
use Rattle.std.specs.List.{flat_map}
use Rattle.persist.specs.declared.access.Change.{Change}
use Rattle.journal.specs.declared.format.TheConstants.{FRONT_BYTES, CHANGE_BYTES, SUM_BYTES, MAX_CHANGES}
use Rattle.journal.specs.Sum.{sum_of}

-- what one frame says: how many bytes of the file were kept when it was written, and changes, the first made first
pub record Batch : Type 0 where
  pub kept : ℕ
  pub changes : List Change

-- of these changes, made when so many bytes were kept
abbrev pub batch_of : ℕ → List Change → Batch
batch_of kept changes = record { kept = kept; changes = changes }

-- a change: its word in four bytes, its new value in eight
abbrev pub change_bytes : Change → List ℕ
change_bytes change = to_le_bytes w32 change.word ++ to_le_bytes w64 change.new

-- a frame but for its sum: the sum before it, how many bytes were kept, how many changes there are, and each
abbrev pub front_of : List ℕ → Batch → List ℕ
front_of before batch =
    before ++ to_le_bytes w64 batch.kept ++ to_le_bytes w32 (length batch.changes) ++ flat_map change_bytes batch.changes

-- its sum
abbrev pub frame_sum : List ℕ → List ℕ → Batch → List ℕ
frame_sum key before batch = sum_of key (front_of before batch)

abbrev pub frame_of : List ℕ → List ℕ → Batch → List ℕ
frame_of key before batch = front_of before batch ++ frame_sum key before batch

-- frames one behind the other, each with the sum of the one before it
abbrev pub frames_of : List ℕ → List ℕ → List Batch → List ℕ
frames_of key before [] = []
frames_of key before (batch ∷ batches) =
    frame_of key before batch ++ frames_of key (frame_sum key before batch) batches

-- the sum of the last one
abbrev pub last_sum : List ℕ → List ℕ → List Batch → List ℕ
last_sum key before [] = before
last_sum key before (batch ∷ batches) = last_sum key (frame_sum key before batch) batches

-- how many bytes a frame of so many changes has
abbrev pub frame_size : ℕ → ℕ
frame_size count = FRONT_BYTES + CHANGE_BYTES * count + SUM_BYTES

-- a change of one of so many words
pub record IsChangeIn (size : ℕ) (change : Change) : Type 0 where
  pub word : change.word < size
  pub value : change.new < 2 ^ 64

-- a frame may say this, of so many words
pub record IsBatchIn (size : ℕ) (batch : Batch) : Type 0 where
  pub some : 0 < length batch.changes
  pub few : length batch.changes ≤ MAX_CHANGES
  pub within : All (IsChangeIn size) batch.changes
