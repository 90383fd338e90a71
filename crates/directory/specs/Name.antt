-- Names of queues, and how two words spell one.
use Rattle.std.specs.Prelude.{◌≡◌, ℕ, ◌-◌, ◌≤◌, Bool, ◌&&◌, ◌||◌, ◌==◌, nat_le, IsTrue, if◌then◌else◌, List, ◌++◌, length, take, drop, replicate, Option, Some, None}
use Rattle.std.specs.List.{list_all, before_first}
use Rattle.std.specs.Int.{w64, from_le_bytes, to_le_bytes}
use Rattle.std.proofs.Common.{sym, arith, length-take}
use Rattle.directory.specs.declared.name.TheConstants.{NAME_BYTES, WORD_BYTES}

-- a letter from a to z, a digit, an underscore or a dash
abbrev pub is_name_byte : ℕ → Bool
is_name_byte b = (nat_le 97 b && nat_le b 122) || (nat_le 48 b && nat_le b 57) || (b == 95) || (b == 45)

-- 1 to 16 of them
abbrev pub is_name : List ℕ → Bool
is_name bytes = nat_le 1 (length bytes) && nat_le (length bytes) NAME_BYTES && list_all is_name_byte bytes

abbrev pub IsName : List ℕ → Type 0
IsName bytes = IsTrue (is_name bytes)

-- the bytes with zeros behind them, sixteen in all
abbrev pub name_row : List ℕ → List ℕ
name_row name = name ++ replicate (NAME_BYTES - length name) 0

-- the row as two little-endian words
abbrev pub first_word : List ℕ → ℕ
first_word name = from_le_bytes w64 (take WORD_BYTES (name_row name))

abbrev pub second_word : List ℕ → ℕ
second_word name = from_le_bytes w64 (drop WORD_BYTES (name_row name))

-- the sixteen bytes of two words, and those of them before the first zero
abbrev pub row_of : ℕ → ℕ → List ℕ
row_of first second = to_le_bytes w64 first ++ to_le_bytes w64 second

abbrev pub text_in : List ℕ → List ℕ
text_in row = before_first (λ b. b == 0) row

-- the name that two words spell, if they spell one: it is a name, and they are its words
abbrev pub spells : List ℕ → ℕ → ℕ → Bool
spells name first second = is_name name && (first_word name == first) && (second_word name == second)

abbrev pub name_of : ℕ → ℕ → Option (List ℕ)
name_of first second =
    let name = text_in (row_of first second) in
    if spells name first second then Some name else None

-- a name, and these are its words
pub record HasWords (name : List ℕ) (first second : ℕ) : Type 0 where
  pub good : IsName name
  pub is_first : first_word name ≡ first
  pub is_second : second_word name ≡ second

-- a row and a length that are those of a name
pub record IsRowOf (row : List ℕ) (len : ℕ) : Type 0 where
  pub whole : length row ≡ NAME_BYTES
  pub within : len ≤ NAME_BYTES
  pub padded : row ≡ name_row (take len row)
  pub good : IsName (take len row)

-- the row and the length are found again from the bytes
pub row_again : (row : List ℕ) (len : ℕ) → IsRowOf row len → name_row (take len row) ≡ row
row_again row len h = sym h.padded

pub length_again : (row : List ℕ) (len : ℕ) → IsRowOf row len → length (take len row) ≡ len
length_again row len h = grind (arith, length-take)
