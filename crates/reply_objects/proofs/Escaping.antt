-- Names and hexadecimal digits stand in a JSON string as they are.
use Rattle.std.proofs.Common.{◌≡◌, ℕ, Bool, true, false, List, [], ◌∷◌, ◌++◌, Option, Some, None, refl, sym, ap, ap₂, ◌∙◌, arith}
use Rattle.std.specs.Prelude.{◌&&◌, IsUtf8, if◌then◌else◌, length, nat_le}
use Rattle.std.specs.List.{list_all}
use Rattle.std.proofs.lemmas.Bool.{and_parts}
use Rattle.std.proofs.lemmas.Bool.Decides.{nat_tests}
use Rattle.json.specs.Print.{escape, escape_byte}
use Rattle.json.proofs.Printed.Strings.{escape_byte_plain}
use Rattle.json.proofs.Printed.Utf8.{are_ascii, IsUtf8-are_ascii}
use Rattle.std.specs.Result.{result_ok}
use Rattle.hex.specs.Hex.{decode_of, encode_lower}
use Rattle.words.specs.Item.{IsItem, is_hex, is_lower_digit, item_in}
use Rattle.words.proofs.Facts.{hex_again}
use Rattle.directory.specs.Name.{IsName, is_name_byte}

-- bytes that need no escape
all_plain : (p : ℕ → Bool) → ((b : ℕ) → p b ≡ true → escape_byte b ≡ b ∷ []) → (bytes : List ℕ)
    → list_all p bytes ≡ true → escape bytes ≡ bytes
all_plain p plain [] all = refl
all_plain p plain (b ∷ bytes) all =
    let both = and_parts (p b) (list_all p bytes) all in
    ap₂ (λ (a c : List ℕ). a ++ c) (plain b both.0) (all_plain p plain bytes both.1)

name_byte_plain : (b : ℕ) → is_name_byte b ≡ true → escape_byte b ≡ b ∷ []
name_byte_plain b is =
    escape_byte_plain b (λ e. grind (arith, nat_tests, is, e)) (λ e. grind (arith, nat_tests, is, e))
    (grind (arith, nat_tests, is))

digit_plain : (b : ℕ) → is_lower_digit b ≡ true → escape_byte b ≡ b ∷ []
digit_plain b is =
    escape_byte_plain b (λ e. grind (arith, nat_tests, is, e)) (λ e. grind (arith, nat_tests, is, e))
    (grind (arith, nat_tests, is))

name_bytes : (name : List ℕ) → IsName name → list_all is_name_byte name ≡ true
name_bytes name is =
    (and_parts (nat_le 1 (length name) && nat_le (length name) 16) (list_all is_name_byte name) is).1

pub name_plain : (name : List ℕ) → IsName name → escape name ≡ name
name_plain name is = all_plain is_name_byte name_byte_plain name (name_bytes name is)

-- a text that spells an item has such digits alone
spells_digits : (text item : List ℕ) → item_in text ≡ Some item → list_all is_lower_digit text ≡ true
spells_digits text item found = go (is_hex text) refl
  where
    go : (b : Bool) → is_hex text ≡ b → list_all is_lower_digit text ≡ true
    go true is = (and_parts _ _ is).1
    go false is =
        let none : (let o : Option (List ℕ) = None in o) ≡ Some item =
        sym (ap (λ (b : Bool). if b then result_ok (decode_of text) else None) is) ∙ found in
        absurd (cc (none))

pub value_plain : (value : List ℕ) → IsItem value → escape (encode_lower value) ≡ encode_lower value
value_plain value is =
    all_plain is_lower_digit digit_plain (encode_lower value)
    (spells_digits (encode_lower value) value (hex_again value is))

-- a name is a text
ascii_bytes : (bytes : List ℕ) → list_all is_name_byte bytes ≡ true → are_ascii bytes ≡ true
ascii_bytes [] all = refl
ascii_bytes (b ∷ bytes) all =
    let both = and_parts (is_name_byte b) (list_all is_name_byte bytes) all in
    let first = both.0 in
    let rest = ascii_bytes bytes both.1 in
    grind (arith, nat_tests, first, rest)

pub name_utf8 : (name : List ℕ) → IsName name → IsUtf8 name
name_utf8 name is = IsUtf8-are_ascii name (ascii_bytes name (name_bytes name is))
