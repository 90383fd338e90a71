-- The row of a name, and its words.
use Rattle.std.proofs.Common.{◌≡◌, ℕ, ◌+◌, ◌-◌, ◌<◌, ◌≤◌, Bool, true, false, List, [], ◌∷◌, ◌++◌, get_or-drop, length, take, drop, get_or, suc, zero, Some, None, IsTrue, if◌then◌else◌, refl, sym, ◌∙◌, ap, arith, inl, inr, ◌⊎◌}
use Rattle.std.specs.Prelude.{◌==◌, ◌&&◌, ◌↔◌, nat_eq, replicate, IfSome}
use Rattle.std.specs.Cmp.Lexicographic.{pointwise, same_text, other_text}
use Rattle.std.specs.List.{position, position_or_len, list_all}
use Rattle.std.specs.Int.{w64, to_le_bytes}
use Rattle.std.proofs.lemmas.Bool.{eqb-true, cases_lt}
use Rattle.std.proofs.lemmas.Bool.Decides.{nat_tests}
use Rattle.std.proofs.lemmas.Grind.{common_steps}
use Rattle.std.proofs.lemmas.List.Sums.{prefix_len-le-length, position_or_len_is, AllPass-from_list_all}
use Rattle.std.proofs.lemmas.List.{take-append-drop, get_or-append_right, get_or_past}
use Rattle.std.proofs.Math.Seq.{take-append_seam}
use Rattle.std.specs.Str.{IsUtf8}
use Rattle.std.proofs.lemmas.Str.{IsUtf8-from_ascii}
use Rattle.std.proofs.Math.ListN.{get_or-append}
use Rattle.std.proofs.lemmas.Nat.{le_bytes_8}
use Rattle.directory.specs.Name.{is_name_byte, is_name, IsName, name_row, first_word, second_word, row_of, text_in, spells, name_of, HasWords}

-- where no byte passes, all of them come before the first one that does
pub position_or_len-none : (p : ℕ → Bool) (xs : List ℕ) → position p xs ≡ None → length xs ≡ position_or_len p xs
position_or_len-none p xs none = grind (arith, nat_tests, prefix_len-le-length)

-- a row whose text is this spells what its words do
pub spelled : (row : List ℕ) (len first second : ℕ) → row ≡ row_of first second → len ≡ position_or_len (λ b. b == 0) row
    → (if spells (take len row) first second then Some (take len row) else None) ≡ name_of first second
spelled row len first second words end =
    let text : take len row ≡ text_in (row_of first second) = ap (λ (n : ℕ). take n row) end ∙ ap text_in words in
    ap (λ (t : List ℕ). if spells t first second then Some t else None) text

-- the parts of a name
pub short_of : (name : List ℕ) → IsName name → length name ≤ 16
short_of name h = grind (arith, nat_tests)

pub all_of : (name : List ℕ) → IsName name → list_all is_name_byte name ≡ true
all_of name h = grind (arith, nat_tests)

pub name_is : (name : List ℕ) → IsName name → is_name name ≡ true
name_is name h = grind (arith, nat_tests)

pub byte_range : (b : ℕ) → is_name_byte b ≡ true → (1 ≤ b) × (b < 128)
byte_range b h = grind (arith, nat_tests)

pub byte_at : (name : List ℕ) (k : ℕ) → IsName name → k < length name → is_name_byte (get_or name k 0) ≡ true
byte_at name k h below = AllPass-from_list_all is_name_byte name (all_of name h) k 0 below

-- the row of a name
zeros : (m i : ℕ) → ◌≡◌ {A = ℕ} (get_or (replicate m 0) i 0) 0
zeros zero i = refl
zeros (suc m) zero = refl
zeros (suc m) (suc i) = zeros m i

-- the first bytes of bytes are bytes
bytes_taken : (xs : List ℕ) (n i : ℕ) → ((j : ℕ) → get_or xs j 0 < 256) → get_or (take n xs) i 0 < 256
bytes_taken xs zero i h = omega arith
bytes_taken [] (suc n) i h = omega arith
bytes_taken (x ∷ xs) (suc n) zero h = h 0
bytes_taken (x ∷ xs) (suc n) (suc i) h = bytes_taken xs n i (λ j. h (suc j))

module _ (name : List ℕ) (h : IsName name) where
  pub row_byte : (i : ℕ) → get_or (name_row name) i 0 < 256
  row_byte i = go (cases_lt i (length name))
    where
      go : (i < length name) ⊎ (length name ≤ i) → get_or (name_row name) i 0 < 256
      go (inl below) =
          let same : get_or (name_row name) i 0 ≡ get_or name i 0 = get_or-append name (replicate (16 - length name) 0) 0 i below in
          let range = byte_range (get_or name i 0) (byte_at name i h below) in
          rw same (omega arith)
      go (inr past) =
          let same : get_or (name_row name) i 0 ≡ get_or (replicate (16 - length name) 0) (i - length name) 0 = get_or-append_right name (replicate (16 - length name) 0) (length name) i 0 refl past in
          let zero : get_or (name_row name) i 0 ≡ 0 = same ∙ zeros (16 - length name) (i - length name) in
          rw zero (omega arith)

  pub length_row : length (name_row name) ≡ 16
  length_row = let short = short_of name h in grind (arith, common_steps)

  front_byte : (i : ℕ) → get_or (take 8 (name_row name)) i 0 < 256
  front_byte i = bytes_taken (name_row name) 8 i row_byte

  back_byte : (i : ℕ) → get_or (drop 8 (name_row name)) i 0 < 256
  back_byte i = rw (get_or-drop 8 (name_row name) i 0) (row_byte (8 + i))

  -- its words give the row back
  pub row_of-words : row_of (first_word name) (second_word name) ≡ name_row name
  row_of-words =
      let long = length_row in
      let front : to_le_bytes w64 (first_word name) ≡ take 8 (name_row name) = le_bytes_8 (take 8 (name_row name)) (first_word name) (grind (arith, common_steps)) front_byte refl in
      let back : to_le_bytes w64 (second_word name) ≡ drop 8 (name_row name) = le_bytes_8 (drop 8 (name_row name)) (second_word name) (grind (arith, common_steps)) back_byte refl in
      ap (λ (xs : List ℕ). xs ++ to_le_bytes w64 (second_word name)) front ∙ (ap (λ (ys : List ℕ). take 8 (name_row name) ++ ys) back ∙ take-append-drop 8 (name_row name))

  -- the first zero of the row comes right after it
  zero_at : position_or_len (λ b. b == 0) (name_row name) ≡ length name
  zero_at = position_or_len_is (λ b. b == 0) (name_row name) (length name) 0 (let long = length_row in let short = short_of name h in omega arith) before here
    where
      before : (k : ℕ) → k < length name → (get_or (name_row name) k 0 == 0) ≡ false
      before k below =
          let same : get_or (name_row name) k 0 ≡ get_or name k 0 = get_or-append name (replicate (16 - length name) 0) 0 k below in
          let range = byte_range (get_or name k 0) (byte_at name k h below) in
          rw same (grind (arith, nat_tests))

      here : length name < length (name_row name) → (get_or (name_row name) (length name) 0 == 0) ≡ true
      here below =
          let same : get_or (name_row name) (length name) 0 ≡ get_or (replicate (16 - length name) 0) (length name - length name) 0 = get_or-append_right name (replicate (16 - length name) 0) (length name) (length name) 0 refl (omega arith) in
          let zero : get_or (name_row name) (length name) 0 ≡ 0 = same ∙ zeros (16 - length name) (length name - length name) in
          rw zero refl

  pub text_again : text_in (row_of (first_word name) (second_word name)) ≡ name
  text_again = ap text_in row_of-words ∙ (ap (λ (n : ℕ). take n (name_row name)) zero_at ∙ take-append_seam name (replicate (16 - length name) 0))

  -- a name is found again from its words
  pub name_again : name_of (first_word name) (second_word name) ≡ Some name
  name_again =
      let own : spells name (first_word name) (second_word name) ≡ true = let good = name_is name h in grind (arith, nat_tests) in
      ap (λ (t : List ℕ). if spells t (first_word name) (second_word name) then Some t else None) text_again ∙ ap (λ (b : Bool). if b then Some name else None) own

-- what names and their words are to each other
pub found : (name : List ℕ) (first second : ℕ) → HasWords name first second → name_of first second ≡ Some name
found name first second h =
    ap (λ (w : ℕ). name_of w second) (sym h.is_first) ∙ (ap (λ (w : ℕ). name_of (first_word name) w) (sym h.is_second) ∙ name_again name h.good)

own_words : (first second : ℕ) (text : List ℕ) → IfSome (if spells text first second then Some text else None) (λ name. HasWords name first second)
own_words first second text = go (spells text first second) refl
  where
    go : (b : Bool) → spells text first second ≡ b → IfSome (if b then Some text else None) (λ name. HasWords name first second)
    go true e = record {
      good = grind (arith, nat_tests);
      is_first = grind (arith, nat_tests);
      is_second = grind (arith, nat_tests);
    }
    go false e = tt

pub own : (first second : ℕ) → IfSome (name_of first second) (λ name. HasWords name first second)
own first second = own_words first second (text_in (row_of first second))

-- a name is text
pub name_text : (name : List ℕ) → IsName name → IsUtf8 name
name_text name h = IsUtf8-from_ascii name ascii
  where
    ascii : (i : ℕ) → get_or name i 0 < 128
    ascii i = go (cases_lt i (length name))
      where
        go : (i < length name) ⊎ (length name ≤ i) → get_or name i 0 < 128
        go (inl below) = let range = byte_range (get_or name i 0) (byte_at name i h below) in omega arith
        go (inr past) = let none : get_or name i 0 ≡ 0 = get_or_past name i 0 past in omega arith

-- two names are equal exactly where their rows and their lengths are
equal_rows : (xs ys : List ℕ) → xs ≡ ys → pointwise nat_eq xs ys ≡ true
equal_rows xs ys same = go (pointwise nat_eq xs ys) refl
  where
    go : (b : Bool) → pointwise nat_eq xs ys ≡ b → pointwise nat_eq xs ys ≡ true
    go true e = e
    go false e = absurd (other_text xs ys (sym e) same)

pub names_equal : (a b : List ℕ) (r : Bool) → r ≡ (pointwise nat_eq (name_row a) (name_row b) && (length a == length b)) → IsTrue r ↔ (a ≡ b)
names_equal a b r is = (equal, same)
  where
    rows_of : (p q : Bool) → (p && q) ≡ true → (p ≡ true) × (q ≡ true)
    rows_of true true h = (refl, refl)
    rows_of true false h = (refl, h)
    rows_of false q h = (h, absurd (cc))

    equal : IsTrue r → a ≡ b
    equal h =
        let both = rows_of (pointwise nat_eq (name_row a) (name_row b)) (length a == length b) (sym is ∙ h) in
        let rows : name_row a ≡ name_row b = same_text (name_row a) (name_row b) (sym both.0) in
        let long : length a ≡ length b = eqb-true (length a) (length b) both.1 in
        sym (take-append_seam a (replicate (16 - length a) 0))
        ∙ (ap (λ (n : ℕ). take n (name_row a)) long ∙ (ap (λ (row : List ℕ). take (length b) row) rows ∙ take-append_seam b (replicate (16 - length b) 0)))

    same : a ≡ b → IsTrue r
    same e =
        let rows : pointwise nat_eq (name_row a) (name_row b) ≡ true = equal_rows (name_row a) (name_row b) (ap name_row e) in
        let long : length a ≡ length b = ap length e in
        is ∙ rw rows (grind (arith, nat_tests))
