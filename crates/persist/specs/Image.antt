-- Images: the kept words of a memory as bytes, and what bytes are read as.
use Rattle.std.specs.Prelude.{ℕ, ◌+◌, ◌*◌, ◌^◌, ◌<◌, ◌≤◌, ◌==◌, ◌||◌, not, nat_lt, Bool, if◌then◌else◌, List, ◌++◌, length, take, drop, map, codes, All, Result, Ok, Err, IsOk, ◌⊎◌, ◌≡◌}
use Rattle.std.specs.Int.{w64, from_le_bytes, to_le_bytes}
use Rattle.std.specs.List.{flat_map}
use Rattle.std.specs.Simd.{first_chunks}
use Rattle.std.specs.Str.{bytes_eq}
use Rattle.words.specs.declared.refusal.Refusal.{Refusal}
use Rattle.words.specs.declared.refusal.Refusal.TheVariants.{BadMagic, BadCount, NoMemory, Truncated, TrailingBytes}
use Rattle.persist.specs.declared.memory.TheConstants.{MAX_WORDS}
use Rattle.persist.specs.declared.image.TheConstants.{MAGIC_BYTES, HEADER_BYTES, NUMBER_BYTES}

-- the words of some memory
pub record AreWords (words : List ℕ) : Type 0 where
  pub some : 0 < length words
  pub few : length words ≤ MAX_WORDS
  pub fit : All (λ word. word < 2 ^ 64) words

-- each is a byte
abbrev pub AreBytes : List ℕ → Type 0
AreBytes bytes = All (λ byte. byte < 2 ^ 8) bytes

-- what every image begins with
abbrev pub magic : List ℕ
magic = codes "PQW2"

-- what images of the first form began with
abbrev pub magic_v1 : List ℕ
magic_v1 = codes "PQW1"

-- the one image of words that begins so: then how many words, and each word; every number in eight bytes, the low one
-- first
abbrev pub image_by : List ℕ → List ℕ → List ℕ
image_by first words = first ++ to_le_bytes w64 (length words) ++ flat_map (to_le_bytes w64) words

abbrev pub image_of : List ℕ → List ℕ
image_of words = image_by magic words

-- how many bytes an image of so many words has
abbrev pub image_size : ℕ → ℕ
image_size count = HEADER_BYTES + NUMBER_BYTES * count

-- whether what there is of the first four bytes is as these
abbrev pub begins_with : List ℕ → List ℕ → Bool
begins_with first bytes = bytes_eq (take MAGIC_BYTES bytes) (take (length bytes) first)

-- how many words the bytes say that there are
abbrev pub count_in : List ℕ → ℕ
count_in bytes = from_le_bytes w64 (take NUMBER_BYTES (drop MAGIC_BYTES bytes))

-- so many words, from after the count on
abbrev pub words_in : ℕ → List ℕ → List ℕ
words_in count bytes = map (from_le_bytes w64) (first_chunks NUMBER_BYTES count (drop HEADER_BYTES bytes))

-- what bytes are read as that have to begin so: the words, or the first that is wrong with them
unfoldable pub reading_by : List ℕ → List ℕ → Result (List ℕ) Refusal
reading_by first bytes =
    let count = count_in bytes in
    if not (begins_with first bytes) then Err BadMagic
    else (if nat_lt (length bytes) HEADER_BYTES then Err Truncated
    else (if (count == 0) || nat_lt MAX_WORDS count then Err BadCount
    else (if nat_lt (length bytes) (image_size count) then Err Truncated
    else (if nat_lt (image_size count) (length bytes) then Err TrailingBytes
    else Ok (words_in count bytes)))))

abbrev pub reading : List ℕ → Result (List ℕ) Refusal
reading bytes = reading_by magic bytes

abbrev pub reading_v1 : List ℕ → Result (List ℕ) Refusal
reading_v1 bytes = reading_by magic_v1 bytes

-- whether bytes begin as images of the first form did
abbrev pub has_first_form : List ℕ → Bool
has_first_form bytes = bytes_eq (take MAGIC_BYTES bytes) magic_v1

-- why nothing is read of bytes that are read as this: they are refused so; or they are not, and there is no memory
abbrev pub IsWhyUnread : Result (List ℕ) Refusal → Refusal → Type 0
IsWhyUnread read refusal = (read ≡ Err refusal) ⊎ (refusal ≡ NoMemory) × IsOk read
