-- Items: how a length and three words have one, and how texts spell one.
use Rattle.std.specs.Prelude.{◌≡◌, ◌==◌, ℕ, ◌-◌, ◌<◌, ◌≤◌, min, Bool, ◌&&◌, ◌||◌, nat_le, if◌then◌else◌, List, [], ◌∷◌, ◌++◌, length, take, drop, replicate, codes, slice_index, Option, None}
use Rattle.std.specs.List.{list_all}
use Rattle.std.specs.Result.{result_ok}
use Rattle.std.specs.Int.{w64, from_le_bytes, to_le_bytes}
use Rattle.std.proofs.Common.{sym, arith, length-take}
use Rattle.hex.specs.Hex.{decode_of, encode_lower}
use Rattle.words.specs.declared.item.TheConstants.{ITEM_BYTES, ITEM_DIGITS, WORD_BYTES}

-- at most 24 bytes
pub record IsItem (item : List ℕ) : Type 0 where
  pub short : length item ≤ ITEM_BYTES
  pub bytes : (k : ℕ) → slice_index item k < 256

-- the bytes with zeros behind them, 24 in all
abbrev pub item_row : List ℕ → List ℕ
item_row item = item ++ replicate (ITEM_BYTES - length item) 0

-- its length, and the row as three little-endian words
abbrev pub first_word : List ℕ → ℕ
first_word item = from_le_bytes w64 (take WORD_BYTES (item_row item))

abbrev pub second_word : List ℕ → ℕ
second_word item = from_le_bytes w64 (take WORD_BYTES (drop WORD_BYTES (item_row item)))

abbrev pub third_word : List ℕ → ℕ
third_word item = from_le_bytes w64 (drop WORD_BYTES (drop WORD_BYTES (item_row item)))

abbrev pub item_parts : List ℕ → List ℕ
item_parts item = length item ∷ first_word item ∷ second_word item ∷ third_word item ∷ []

-- the 24 bytes of three words, and the item of so many of them
abbrev pub row_of : ℕ → ℕ → ℕ → List ℕ
row_of first second third = to_le_bytes w64 first ++ to_le_bytes w64 second ++ to_le_bytes w64 third

abbrev pub item_of : ℕ → ℕ → ℕ → ℕ → List ℕ
item_of len first second third = take (min len ITEM_BYTES) (row_of first second third)

abbrev pub item_of_parts : List ℕ → List ℕ
item_of_parts parts = item_of (slice_index parts 0) (slice_index parts 1) (slice_index parts 2) (slice_index parts 3)

-- a length and three words are those of an item: the length is at most 24, and each byte past it is 0
pub record AreParts (len first second third : ℕ) : Type 0 where
  pub short : len ≤ ITEM_BYTES
  pub padded : (k : ℕ) → len ≤ k → slice_index (row_of first second third) k ≡ 0

-- so these four are, in this order
abbrev pub AreItemParts : List ℕ → Type 0
AreItemParts parts = AreParts (slice_index parts 0) (slice_index parts 1) (slice_index parts 2) (slice_index parts 3)

-- as a transcript spells it: two lowercase hexadecimal digits for each byte, and `.` for none
abbrev pub item_text : List ℕ → List ℕ
item_text [] = codes "."
item_text (first ∷ rest) = encode_lower (first ∷ rest)

abbrev pub is_zero : ℕ → Bool
is_zero byte = byte == 0

-- a digit or a letter from a to f
abbrev pub is_lower_digit : ℕ → Bool
is_lower_digit b = (nat_le 48 b && nat_le b 57) || (nat_le 97 b && nat_le b 102)

abbrev pub is_hex : List ℕ → Bool
is_hex text = nat_le (length text) ITEM_DIGITS && list_all is_lower_digit text

-- the item that a text spells, if it spells one
abbrev pub item_in : List ℕ → Option (List ℕ)
item_in text = if is_hex text then result_ok (decode_of text) else None

-- a row and a length that are those of an item
pub record IsRowOf (row : List ℕ) (len : ℕ) : Type 0 where
  pub whole : length row ≡ ITEM_BYTES
  pub within : len ≤ ITEM_BYTES
  pub padded : row ≡ item_row (take len row)
  pub bytes : (k : ℕ) → slice_index (take len row) k < 256

-- the row and the length are found again from the bytes
pub row_again : (row : List ℕ) (len : ℕ) → IsRowOf row len → item_row (take len row) ≡ row
row_again row len h = sym h.padded

pub length_again : (row : List ℕ) (len : ℕ) → IsRowOf row len → length (take len row) ≡ len
length_again row len h = grind (arith, length-take)
