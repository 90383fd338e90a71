-- The words and the text of an item give it back.
use Rattle.std.proofs.Common.{◌≡◌, ℕ, ◌+◌, ◌-◌, ◌*◌, ◌/◌, ◌%◌, ◌<◌, ◌≤◌, Bool, true, List, [], ◌∷◌, ◌++◌, get_or-drop, length, take, drop, get_or, suc, zero, Some, None, if◌then◌else◌, append_assoc, refl, ◌∙◌, ap, arith, inl, inr, ◌⊎◌}
use Rattle.std.specs.Prelude.{replicate, min}
use Rattle.std.specs.List.{list_all}
use Rattle.std.specs.Result.{result_ok}
use Rattle.std.specs.Int.{w64, to_le_bytes}
use Rattle.std.specs.Str.{IsUtf8}
use Rattle.std.proofs.lemmas.Bool.{cases_lt}
use Rattle.std.proofs.lemmas.Bool.Decides.{nat_tests}
use Rattle.std.proofs.lemmas.Grind.{common_steps}
use Rattle.std.proofs.lemmas.List.{take-append-drop, get_or-append_right, get_or_past}
use Rattle.std.proofs.lemmas.List.Sums.{AllPass-from_list_all}
use Rattle.std.proofs.lemmas.Nat.{le_bytes_8}
use Rattle.std.proofs.lemmas.Str.{IsUtf8-from_ascii}
use Rattle.std.proofs.Math.ListN.{get_or-append}
use Rattle.std.proofs.Math.Seq.{take-append_seam}
use Rattle.hex.specs.Hex.{decode_of, decode_sized, encode_lower, encode_with, lower_digits}
use Rattle.hex.proofs.HexLemmas.{decode_of-encode_lower, length-encode_with, IsAscii-encode_with}
use Rattle.words.specs.Item.{IsItem, item_row, item_parts, item_of_parts, row_of, first_word, second_word, third_word, is_hex, is_lower_digit, item_in}

-- zeros are 0 at each place
pub zeros : (m i : ℕ) → ◌≡◌ {A = ℕ} (get_or (replicate m 0) i 0) 0
zeros zero i = refl
zeros (suc m) zero = refl
zeros (suc m) (suc i) = zeros m i

-- the first bytes of bytes are bytes
pub bytes_taken : (xs : List ℕ) (n i : ℕ) → ((j : ℕ) → get_or xs j 0 < 256) → get_or (take n xs) i 0 < 256
bytes_taken xs zero i h = omega arith
bytes_taken [] (suc n) i h = omega arith
bytes_taken (x ∷ xs) (suc n) zero h = h 0
bytes_taken (x ∷ xs) (suc n) (suc i) h = bytes_taken xs n i (λ j. h (suc j))

bytes_dropped : (xs : List ℕ) (n i : ℕ) → ((j : ℕ) → get_or xs j 0 < 256) → get_or (drop n xs) i 0 < 256
bytes_dropped xs n i h = rw (get_or-drop n xs i 0) (h (n + i))

-- three rows and the whole
rows_joined : {a b c p q r back row : List ℕ} → a ≡ p → b ≡ q → c ≡ r → q ++ r ≡ back → p ++ back ≡ row
    → a ++ b ++ c ≡ row
rows_joined one two three joined whole = rw (append_assoc, one, two, three, joined) whole

module _ (item : List ℕ) (h : IsItem item) where
  row_byte : (i : ℕ) → get_or (item_row item) i 0 < 256
  row_byte i = go (cases_lt i (length item))
    where
      go : (i < length item) ⊎ (length item ≤ i) → get_or (item_row item) i 0 < 256
      go (inl below) = rw (get_or-append item (replicate (24 - length item) 0) 0 i below) (h.bytes i)
      go (inr past) =
          let same : get_or (item_row item) i 0 ≡ get_or (replicate (24 - length item) 0) (i - length item) 0 =
          get_or-append_right item (replicate (24 - length item) 0) (length item) i 0 refl past in
          let none : get_or (item_row item) i 0 ≡ 0 = same ∙ zeros (24 - length item) (i - length item) in
          rw none (omega arith)

  length_row : length (item_row item) ≡ 24
  length_row = let short = h.short in grind (arith, common_steps)

  -- its words give the row back
  pub row_again : row_of (first_word item) (second_word item) (third_word item) ≡ item_row item
  row_again =
      let long = length_row in
      let row : List ℕ = item_row item in
      let back : List ℕ = drop 8 row in
      let one : to_le_bytes w64 (first_word item) ≡ take 8 row =
      le_bytes_8 (take 8 row) (first_word item) (grind (arith, common_steps))
      (λ i. bytes_taken row 8 i row_byte) refl in
      let two : to_le_bytes w64 (second_word item) ≡ take 8 back =
      le_bytes_8 (take 8 back) (second_word item) (grind (arith, common_steps))
      (λ i. bytes_taken back 8 i (λ j. bytes_dropped row 8 j row_byte)) refl in
      let three : to_le_bytes w64 (third_word item) ≡ drop 8 back =
      le_bytes_8 (drop 8 back) (third_word item) (grind (arith, common_steps))
      (λ i. bytes_dropped back 8 i (λ j. bytes_dropped row 8 j row_byte)) refl in
      let joined : take 8 back ++ drop 8 back ≡ back = take-append-drop 8 back in
      let whole : take 8 row ++ back ≡ row = take-append-drop 8 row in
      rows_joined one two three joined whole

  -- an item is found again from its parts
  pub parts_again : item_of_parts (item_parts item) ≡ item
  parts_again =
      let least : min (length item) 24 ≡ length item = let short = h.short in omega arith in
      ap (λ (n : ℕ). take n (row_of (first_word item) (second_word item) (third_word item))) least
      ∙ (ap (take (length item)) row_again ∙ take-append_seam item (replicate (24 - length item) 0))

-- each of the sixteen digits is lowercase
lower_digit_at : (d : ℕ) → d < 16 → is_lower_digit (get_or lower_digits d 0) ≡ true
lower_digit_at d below = AllPass-from_list_all is_lower_digit lower_digits refl d 0 below

-- what a text of digits is made of
digits_lower : (bytes : List ℕ) → ((k : ℕ) → get_or bytes k 0 < 256)
    → list_all is_lower_digit (encode_lower bytes) ≡ true
unfolding encode_with
digits_lower [] h = refl
digits_lower (b ∷ rest) h =
    let fits : b < 256 = h 0 in
    let high = lower_digit_at (b / 16) (omega arith) in
    let low = lower_digit_at (b % 16) (omega arith) in
    let others = digits_lower rest (λ k. h (suc k)) in
    rw (high, low, others) refl

-- an item is found again from its text
pub hex_again : (item : List ℕ) → IsItem item → item_in (encode_lower item) ≡ Some item
hex_again item h =
    let long : length (encode_lower item) ≡ 2 * length item = length-encode_with lower_digits item in
    let digits : list_all is_lower_digit (encode_lower item) ≡ true = digits_lower item h.bytes in
    let text : is_hex (encode_lower item) ≡ true = let short = h.short in grind (arith, nat_tests) in
    ap (λ (b : Bool). if b then result_ok (decode_of (encode_lower item)) else None) text
    ∙ ap result_ok (decode_of-encode_lower item h.bytes)

-- a text decodes into room for half as many bytes as it is long, or not at all
pub decoded_sized : (text : List ℕ) → decode_sized text (length text / 2) ≡ decode_of text
decoded_sized text = grind (arith, nat_tests)

-- digits are text
pub digits_text : (bytes : List ℕ) → IsUtf8 (encode_lower bytes)
digits_text bytes = IsUtf8-from_ascii (encode_lower bytes) (IsAscii-encode_with lower_digits bytes ascii)
  where
    ascii : (i : ℕ) → get_or lower_digits i 0 < 128
    ascii i = go (cases_lt i 16)
      where
        go : (i < 16) ⊎ (16 ≤ i) → get_or lower_digits i 0 < 128
        go (inl below) = let digit = lower_digit_at i below in grind (arith, nat_tests)
        go (inr past) = let none : get_or lower_digits i 0 ≡ 0 = get_or_past lower_digits i 0 past in omega arith
