-- What bytes are read as: the words that a journal leaves, or the first that is wrong with its head.
use Rattle.std.specs.Prelude.{◌≡◌, ℕ, zero, suc, ◌+◌, ◌*◌, ◌<◌, ◌≤◌, ◌==◌, ◌||◌, ◌&&◌, not, nat_lt, nat_le, Bool, true, if◌then◌else◌, List, ◌++◌, length, take, drop, slice_set, fold, Result, Ok, Err, ◌⊎◌, IsOk}
use Rattle.std.specs.Int.{w32, w64, from_le_bytes}
use Rattle.std.specs.List.{list_all}
use Rattle.std.specs.Simd.{first_chunks}
use Rattle.std.specs.Str.{bytes_eq}
use Rattle.words.specs.declared.refusal.Refusal.TheVariants.{BadMagic, BadCount, NoMemory, Truncated}
use Rattle.persist.specs.Image.{words_in, image_size}
use Rattle.persist.specs.Image as image
use Rattle.persist.specs.declared.memory.TheConstants.{MAX_WORDS}
use Rattle.persist.specs.declared.image.TheConstants.{HEADER_BYTES, NUMBER_BYTES}
use Rattle.journal.specs.declared.format.TheConstants.{MAGIC_BYTES, KEY_BYTES, SUM_BYTES, FRONT_BYTES, CHANGE_BYTES, MAX_CHANGES}
use Rattle.journal.specs.declared.fault.Fault.{Fault}
use Rattle.journal.specs.declared.fault.Fault.TheVariants.{Refused, BadSum}
use Rattle.journal.specs.Sum.{sum_of}
use Rattle.journal.specs.Frame.{frame_size}
use Rattle.journal.specs.Journal.{magic}

-- ---- what bytes say that begin with a frame

-- the sum before it
abbrev pub before_in : List ℕ → List ℕ
before_in bytes = take SUM_BYTES bytes

-- how many bytes of the file were kept when it was written
unfoldable pub kept_in : List ℕ → ℕ
kept_in bytes = from_le_bytes w64 (take 8 (drop SUM_BYTES bytes))

-- how many changes there are
unfoldable pub count_in : List ℕ → ℕ
count_in bytes = from_le_bytes w32 (take 4 (drop (SUM_BYTES + 8) bytes))

-- the bytes of each
abbrev pub changes_in : List ℕ → List (List ℕ)
changes_in bytes = first_chunks CHANGE_BYTES (count_in bytes) (drop FRONT_BYTES bytes)

-- all of it but its sum, and its sum
abbrev pub front_size : ℕ → ℕ
front_size count = FRONT_BYTES + CHANGE_BYTES * count

abbrev pub front_in : List ℕ → List ℕ
front_in bytes = take (front_size (count_in bytes)) bytes

abbrev pub sum_in : List ℕ → List ℕ
sum_in bytes = take SUM_BYTES (drop (front_size (count_in bytes)) bytes)

-- what follows it
abbrev pub behind : List ℕ → List ℕ
behind bytes = drop (frame_size (count_in bytes)) bytes

-- of the twelve bytes of a change: its word, and the new value
unfoldable pub word_in : List ℕ → ℕ
word_in change = from_le_bytes w32 (take 4 change)

unfoldable pub value_in : List ℕ → ℕ
value_in change = from_le_bytes w64 (take 8 (drop 4 change))

-- words after such changes, in their order
abbrev pub value_set : List ℕ → List ℕ → List ℕ
value_set words change = slice_set words (word_in change) (value_in change)

abbrev pub values_set : List ℕ → List (List ℕ) → List ℕ
values_set words changes = fold value_set words changes

-- ---- frames

-- whether the bytes begin with a whole frame, by its own sum
unfoldable pub is_whole : List ℕ → List ℕ → Bool
is_whole key bytes =
    nat_lt 0 (count_in bytes)
    && nat_le (count_in bytes) MAX_CHANGES
    && nat_le (frame_size (count_in bytes)) (length bytes)
    && bytes_eq (sum_in bytes) (sum_of key (front_in bytes))

-- whether all changes are of one of so many words
unfoldable pub are_within : ℕ → List (List ℕ) → Bool
are_within size changes = list_all (λ change. nat_lt (word_in change) size) changes

-- whether a journal of so many words goes on with a whole frame, which has the sum before it
unfoldable pub goes_on : List ℕ → List ℕ → ℕ → List ℕ → Bool
goes_on key before size bytes =
    is_whole key bytes && bytes_eq (before_in bytes) before && are_within size (changes_in bytes)

-- words after whole frames, and what follows these
pub record Replay : Type 0 where
  pub words : List ℕ
  pub tail : List ℕ

-- words after the frames that the bytes go on with, at most so many
unfoldable pub replayed : ℕ → List ℕ → List ℕ → List ℕ → List ℕ → Replay
replayed zero key before words bytes = record { words = words; tail = bytes }
replayed (suc most) key before words bytes =
    if goes_on key before (length words) bytes
    then replayed most key (sum_in bytes) (values_set words (changes_in bytes)) (behind bytes)
    else record { words = words; tail = bytes }

-- the same, whatever their number: no frame is empty, so there are no more than bytes
abbrev pub replay : List ℕ → List ℕ → List ℕ → List ℕ → Replay
replay key before words bytes = replayed (length bytes) key before words bytes

-- ---- the head

-- what every journal begins with: its own magic, and that of an image
abbrev pub first_bytes : List ℕ
first_bytes = magic ++ image.magic

-- whether what there is of the first eight bytes is as these
abbrev pub begins_as_journal : List ℕ → Bool
begins_as_journal bytes = bytes_eq (take 8 bytes) (take (length bytes) first_bytes)

-- how many words the bytes say that there are
abbrev pub words_count : List ℕ → ℕ
words_count bytes = image.count_in (drop MAGIC_BYTES bytes)

-- the head of so many words without key and sum, without its sum, and whole
abbrev pub key_at : ℕ → ℕ
key_at count = MAGIC_BYTES + image_size count

abbrev pub sum_at : ℕ → ℕ
sum_at count = key_at count + KEY_BYTES

abbrev pub head_size : ℕ → ℕ
head_size count = sum_at count + SUM_BYTES

-- the bytes of each of its words
abbrev pub word_bytes : ℕ → List ℕ → List (List ℕ)
word_bytes count bytes = first_chunks NUMBER_BYTES count (drop HEADER_BYTES (drop MAGIC_BYTES bytes))

-- what a head says, and what follows it
pub record Head : Type 0 where
  pub words : List ℕ
  pub key : List ℕ
  pub sum : List ℕ
  pub rest : List ℕ

-- of so many words
abbrev pub head_in : ℕ → List ℕ → Head
head_in count bytes = record {
  words = words_in count (drop MAGIC_BYTES bytes);
  key = take KEY_BYTES (drop (key_at count) bytes);
  sum = take SUM_BYTES (drop (sum_at count) bytes);
  rest = drop (head_size count) bytes;
}

-- whether its sum is the sum of all before it
abbrev pub has_its_sum : ℕ → List ℕ → Bool
has_its_sum count bytes =
    let key = take KEY_BYTES (drop (key_at count) bytes) in
    bytes_eq (take SUM_BYTES (drop (sum_at count) bytes)) (sum_of key (take (sum_at count) bytes))

-- the head that the bytes begin with, or the first that is wrong with it
unfoldable pub head_reading : List ℕ → Result Head Fault
head_reading bytes =
    let count = words_count bytes in
    if not (begins_as_journal bytes) then Err (Refused BadMagic)
    else (if nat_lt (length bytes) (MAGIC_BYTES + HEADER_BYTES) then Err (Refused Truncated)
    else (if (count == 0) || nat_lt MAX_WORDS count then Err (Refused BadCount)
    else (if nat_lt (length bytes) (head_size count) then Err (Refused Truncated)
    else (if not (has_its_sum count bytes) then Err BadSum
    else Ok (head_in count bytes)))))

-- ---- the whole

-- what a journal is read as: its key, the words after all its frames, and how many bytes follow the last whole one
pub record Read : Type 0 where
  pub key : List ℕ
  pub words : List ℕ
  pub cut : ℕ

abbrev pub read_of : List ℕ → Replay → Read
read_of key replay = record { key = key; words = replay.words; cut = length replay.tail }

abbrev pub read_on : Result Head Fault → Result Read Fault
read_on (Err fault) = Err fault
read_on (Ok head) = Ok (read_of head.key (replay head.key head.sum head.words head.rest))

-- what bytes are read as
abbrev pub reading : List ℕ → Result Read Fault
reading bytes = read_on (head_reading bytes)

-- why nothing is read of them: they are refused so; or they are not, and there is no memory
abbrev pub IsWhyUnread : List ℕ → Fault → Type 0
IsWhyUnread bytes fault = (reading bytes ≡ Err fault) ⊎ (fault ≡ Refused NoMemory) × IsOk (reading bytes)

-- they are read as these words under this key, and so many bytes are cut off
abbrev pub ReadsAs : List ℕ → List ℕ → ℕ → List ℕ → Type 0
ReadsAs key words cut bytes = reading bytes ≡ Ok (record { key = key; words = words; cut = cut })

-- ---- what a tail may hide

-- whether bytes begin, so far behind the beginning of the file, with a frame that is whole by its own sum, and that was
-- written when the bytes at a place of the file were kept
unfoldable pub knows_kept : List ℕ → ℕ → ℕ → List ℕ → Bool
knows_kept key place at bytes = nat_lt place (kept_in bytes) && nat_le (kept_in bytes) at && is_whole key bytes

-- from the place on there is such a frame
abbrev pub HidesKept : List ℕ → ℕ → List ℕ → Type 0
HidesKept key place bytes =
    (at : ℕ) × (place ≤ at) × (at < length bytes) × (knows_kept key place at (drop at bytes) ≡ true)
