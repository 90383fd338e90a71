-- Reading and writing an image are each other's inverse.
use Rattle.std.proofs.Common.{◌≡◌, ◌≢◌, ℕ, zero, suc, ◌*◌, ◌^◌, ◌<◌, ◌≤◌, ◌||◌, not, ltb, eqb, Bool, true, false, cond, List, [], ◌∷◌, ◌++◌, length, get_or, take, drop, map, inl, inr, Result, Ok, Err, refl, sym, ap, ◌∙◌, subst, arith}
use Rattle.std.specs.Prelude.{All}
use Rattle.std.specs.Int.{w64, from_le_bytes, to_le_bytes}
use Rattle.std.specs.List.{flat_map}
use Rattle.std.specs.Simd.{first_chunks}
use Rattle.std.specs.Str.{bytes_eq}
use Rattle.std.proofs.lemmas.Bool.{cases_lt, ltb-false, le-ltb, eqb-false, ne_eqb}
use Rattle.std.proofs.lemmas.List.{nil_from_length, take_at, take_all, drop_at, append_assoc, take-append-drop, drop-drop, length-append, length-take, length-drop, get_or_past}
use Rattle.std.proofs.lemmas.List.Concat.{flat_map-cons}
use Rattle.std.proofs.lemmas.List.Elements.{All-get_or, All-take, All-drop, All-nil, All-cons, All-head, All-tail}
use Rattle.std.proofs.lemmas.Nat.{le_bytes_8, from_le_bytes-to_le_bytes_8}
use Rattle.std.proofs.lemmas.Slice.Eq.{bytes_eq-Decides}
use Rattle.words.specs.declared.refusal.Refusal.{Refusal}
use Rattle.words.specs.declared.refusal.Refusal.TheVariants.{BadMagic, BadCount, Truncated, TrailingBytes}
use Rattle.persist.specs.declared.memory.TheConstants.{MAX_WORDS}
use Rattle.persist.specs.Image.{AreWords, AreBytes, image_by, image_size, begins_with, count_in, words_in, reading_by}

-- ---- numbers in eight bytes each

-- so many numbers from the front
abbrev pub numbers_at : ℕ → List ℕ → List ℕ
numbers_at count bytes = map (from_le_bytes w64) (first_chunks 8 count bytes)

-- a byte, or the 0 past the end
byte_at : (bytes : List ℕ) → AreBytes bytes → (i : ℕ) → get_or bytes i 0 < 256
byte_at bytes are i =
    elim (cases_lt i (length bytes)) [
      | inl inside ↦ All-get_or (λ byte. byte < 256) bytes i 0 inside are
      | inr past ↦ rw (get_or_past bytes i 0 past) (omega arith)
    ]

number_fits : (bytes : List ℕ) → AreBytes bytes → from_le_bytes w64 bytes < 2 ^ 64
number_fits bytes are =
    let at = byte_at bytes are in
    omega (arith, at 0, at 1, at 2, at 3, at 4, at 5, at 6, at 7)

-- the number in eight bytes is written as them
pub number_written : (bytes : List ℕ) → AreBytes bytes → 8 ≤ length bytes → to_le_bytes w64 (from_le_bytes w64 (take 8 bytes)) ≡ take 8 bytes
number_written bytes are long =
    le_bytes_8 (take 8 bytes) _ (omega (arith, length-take 8 bytes)) (byte_at (take 8 bytes) (All-take (λ byte. byte < 256) 8 bytes are)) refl

pub length-numbers_at : (count : ℕ) (bytes : List ℕ) → length (numbers_at count bytes) ≡ count
length-numbers_at zero bytes = refl
length-numbers_at (suc count) bytes = ap suc (length-numbers_at count (drop 8 bytes))

numbers_fit : (count : ℕ) (bytes : List ℕ) → AreBytes bytes → All (λ word. word < 2 ^ 64) (numbers_at count bytes)
numbers_fit zero bytes are = All-nil (λ word. word < 2 ^ 64)
numbers_fit (suc count) bytes are =
    All-cons (λ word. word < 2 ^ 64) (from_le_bytes w64 (take 8 bytes)) (numbers_at count (drop 8 bytes))
    (number_fits (take 8 bytes) (All-take (λ byte. byte < 256) 8 bytes are)) (numbers_fit count (drop 8 bytes) (All-drop (λ byte. byte < 256) 8 bytes are))

-- numbers that fill the bytes are written as them
numbers_written : (count : ℕ) (bytes : List ℕ) → AreBytes bytes → length bytes ≡ 8 * count → flat_map (to_le_bytes w64) (numbers_at count bytes) ≡ bytes
numbers_written zero bytes are long = sym (nil_from_length bytes (omega arith))
numbers_written (suc count) bytes are long =
    let number = from_le_bytes w64 (take 8 bytes) in
    let rest = numbers_at count (drop 8 bytes) in
    flat_map-cons (to_le_bytes w64) number rest
    ∙ ap (λ (front : List ℕ). front ++ flat_map (to_le_bytes w64) rest) (number_written bytes are (omega arith))
    ∙ ap (λ (back : List ℕ). take 8 bytes ++ back) (numbers_written count (drop 8 bytes) (All-drop (λ byte. byte < 256) 8 bytes are) (omega (arith, length-drop 8 bytes)))
    ∙ take-append-drop 8 bytes

number_again : (count word : ℕ) (rest : List ℕ) → word < 2 ^ 64 → numbers_at (suc count) (to_le_bytes w64 word ++ rest) ≡ word ∷ numbers_at count rest
number_again count word rest fits =
    ap (λ (front : List ℕ). from_le_bytes w64 front ∷ numbers_at count (drop 8 (to_le_bytes w64 word ++ rest))) (take_at (to_le_bytes w64 word) rest 8 refl)
    ∙ ap (λ (back : List ℕ). from_le_bytes w64 (to_le_bytes w64 word) ∷ numbers_at count back) (drop_at (to_le_bytes w64 word) rest 8 refl)
    ∙ ap (λ (number : ℕ). number ∷ numbers_at count rest) (from_le_bytes-to_le_bytes_8 word fits)

-- written words are read again
numbers_again : (words : List ℕ) → All (λ word. word < 2 ^ 64) words → numbers_at (length words) (flat_map (to_le_bytes w64) words) ≡ words
numbers_again [] fit = refl
numbers_again (word ∷ words) fit =
    ap (numbers_at (suc (length words))) (flat_map-cons (to_le_bytes w64) word words)
    ∙ number_again (length words) word (flat_map (to_le_bytes w64) words) (All-head (λ word. word < 2 ^ 64) word words fit)
    ∙ ap (λ (rest : List ℕ). word ∷ rest) (numbers_again words (All-tail (λ word. word < 2 ^ 64) word words fit))

length-written : (words : List ℕ) → length (flat_map (to_le_bytes w64) words) ≡ 8 * length words
length-written [] = refl
length-written (word ∷ words) =
    ap length (flat_map-cons (to_le_bytes w64) word words)
    ∙ omega (arith, length-append (to_le_bytes w64 word) (flat_map (to_le_bytes w64) words), length-written words)

-- ---- of images that begin with these four bytes

module _ (first : List ℕ) (four : length first ≡ 4) where
  -- ---- what passes the tests of a reading

  -- nothing is wrong with the bytes, and this is their count
  record IsWhole (bytes : List ℕ) (count : ℕ) : Type 0 where
    begins : begins_with first bytes ≡ true
    counted : count_in bytes ≡ count
    some : 0 < count
    few : count ≤ MAX_WORDS
    long : length bytes ≡ image_size count

  abbrev read : List ℕ → Result (List ℕ) Refusal
  read words = Ok words

  tests_pass : (begins short odd cut more : Bool) (words : List ℕ) → begins ≡ true → short ≡ false → odd ≡ false → cut ≡ false → more ≡ false
      → cond (not begins) (Err BadMagic) (cond short (Err Truncated) (cond odd (Err BadCount) (cond cut (Err Truncated) (cond more (Err TrailingBytes) (read words))))) ≡ Ok words
  tests_pass begins short odd cut more words p q r s t = rw (p, q, r, s, t) refl

  neither : (a b : Bool) → a ≡ false → b ≡ false → (a || b) ≡ false
  neither a b p q = rw (p, q) refl

  read_whole : (bytes : List ℕ) (count : ℕ) → IsWhole bytes count → reading_by first bytes ≡ Ok (words_in count bytes)
  unfolding reading_by
  read_whole bytes count whole =
      let counted : count_in bytes ≡ count = whole.counted in
      let some : 0 < count = whole.some in
      let few : count ≤ MAX_WORDS = whole.few in
      let long : length bytes ≡ image_size (count_in bytes) = whole.long ∙ ap image_size (sym counted) in
      let odd : (eqb (count_in bytes) 0 || ltb MAX_WORDS (count_in bytes)) ≡ false = neither _ _ (ne_eqb (count_in bytes) 0 (omega arith)) (le-ltb MAX_WORDS (count_in bytes) (omega arith)) in
      tests_pass (begins_with first bytes) (ltb (length bytes) 12) _ (ltb (length bytes) (image_size (count_in bytes))) (ltb (image_size (count_in bytes)) (length bytes)) (words_in (count_in bytes) bytes)
      whole.begins (le-ltb (length bytes) 12 (omega arith)) odd (le-ltb (length bytes) (image_size (count_in bytes)) (omega arith)) (le-ltb (image_size (count_in bytes)) (length bytes) (omega arith))
      ∙ ap (λ (n : ℕ). read (words_in n bytes)) counted

  -- a test that stopped nothing
  passed : (fails : Bool) (e : Refusal) (rest : Result (List ℕ) Refusal) (words : List ℕ) → cond fails (Err e) rest ≡ Ok words → (fails ≡ false) × (rest ≡ Ok words)
  passed true e rest words is = absurd cc
  passed false e rest words is = (refl, is)

  not_false : (b : Bool) → not b ≡ false → b ≡ true
  not_false true is = refl
  not_false false is = absurd cc

  neither_is : (a b : Bool) → (a || b) ≡ false → (a ≡ false) × (b ≡ false)
  neither_is true b is = absurd cc
  neither_is false b is = (refl, is)

  same_words : (xs ys : List ℕ) → read xs ≡ Ok ys → xs ≡ ys
  same_words xs ys is = cc

  whole_if_read : (bytes words : List ℕ) → reading_by first bytes ≡ Ok words → IsWhole bytes (count_in bytes) × (words_in (count_in bytes) bytes ≡ words)
  unfolding reading_by
  whole_if_read bytes words is =
      let count : ℕ = count_in bytes in
      let found = read (words_in (count_in bytes) bytes) in
      let more = cond (ltb (image_size (count_in bytes)) (length bytes)) (Err TrailingBytes) found in
      let cut = cond (ltb (length bytes) (image_size (count_in bytes))) (Err Truncated) more in
      let odd = cond (eqb (count_in bytes) 0 || ltb MAX_WORDS (count_in bytes)) (Err BadCount) cut in
      let a = passed (not (begins_with first bytes)) BadMagic (cond (ltb (length bytes) 12) (Err Truncated) odd) words is in
      let b = passed (ltb (length bytes) 12) Truncated odd words a.1 in
      let c = passed (eqb (count_in bytes) 0 || ltb MAX_WORDS (count_in bytes)) BadCount cut words b.1 in
      let d = passed (ltb (length bytes) (image_size (count_in bytes))) Truncated more words c.1 in
      let e = passed (ltb (image_size (count_in bytes)) (length bytes)) TrailingBytes found words d.1 in
      let neither = neither_is (eqb (count_in bytes) 0) (ltb MAX_WORDS (count_in bytes)) c.0 in
      let some : count_in bytes ≢ 0 = eqb-false _ _ neither.0 in
      let few : count_in bytes ≤ MAX_WORDS = ltb-false _ _ neither.1 in
      let low : image_size (count_in bytes) ≤ length bytes = ltb-false _ _ d.0 in
      let high : length bytes ≤ image_size (count_in bytes) = ltb-false _ _ e.0 in
      (record { begins = not_false (begins_with first bytes) a.0; counted = refl; some = omega arith; few = few; long = omega arith }, same_words _ words e.1)

  -- ---- an image is read

  -- with the eight bytes of the count not seen one by one
  whole_image : (eight rest : List ℕ) (count : ℕ) → length eight ≡ 8 → from_le_bytes w64 eight ≡ count → 0 < count → count ≤ MAX_WORDS → length rest ≡ 8 * count
      → IsWhole (first ++ (eight ++ rest)) count
  whole_image eight rest count eight_long counted some few rest_long =
      let long : length (first ++ (eight ++ rest)) ≡ image_size count = omega (arith, four, length-append first (eight ++ rest), length-append eight rest) in
      let all : take (length (first ++ (eight ++ rest))) first ≡ first = take_all (length (first ++ (eight ++ rest))) first (omega (arith, four)) in
      record {
        begins =
            ap (λ (front : List ℕ). bytes_eq front (take (length (first ++ (eight ++ rest))) first)) (take_at first (eight ++ rest) 4 four)
            ∙ ap (bytes_eq first) all
            ∙ (bytes_eq-Decides first first).1 refl;
        counted =
            ap (λ (behind : List ℕ). from_le_bytes w64 (take 8 behind)) (drop_at first (eight ++ rest) 4 four)
            ∙ ap (from_le_bytes w64) (take_at eight rest 8 eight_long)
            ∙ counted;
        some = some;
        few = few;
        long = long;
      }

  read_again : (eight words : List ℕ) → length eight ≡ 8 → from_le_bytes w64 eight ≡ length words → AreWords words → reading_by first (first ++ (eight ++ flat_map (to_le_bytes w64) words)) ≡ Ok words
  read_again eight words eight_long counted are =
      let rest : List ℕ = flat_map (to_le_bytes w64) words in
      let behind : drop 12 (first ++ (eight ++ rest)) ≡ rest =
      sym (drop-drop 8 4 (first ++ (eight ++ rest)))
      ∙ ap (drop 8) (drop_at first (eight ++ rest) 4 four)
      ∙ drop_at eight rest 8 eight_long in
      read_whole (first ++ (eight ++ rest)) (length words) (whole_image eight rest (length words) eight_long counted are.some are.few (length-written words))
      ∙ ap (λ (bytes : List ℕ). read (numbers_at (length words) bytes)) behind
      ∙ ap read (numbers_again words are.fit)

  pub image_is_read : (words : List ℕ) → AreWords words → reading_by first (image_by first words) ≡ Ok words
  image_is_read words are =
      let few : length words ≤ MAX_WORDS = are.few in
      ap (reading_by first) (append_assoc first (to_le_bytes w64 (length words)) (flat_map (to_le_bytes w64) words))
      ∙ read_again (to_le_bytes w64 (length words)) words refl (from_le_bytes-to_le_bytes_8 (length words) (omega arith)) are

  -- ---- what is read has this image

  -- the bytes are the first, the count and what is behind them
  header_written : (bytes : List ℕ) (count : ℕ) → AreBytes bytes → IsWhole bytes count → first ++ (to_le_bytes w64 count ++ drop 12 bytes) ≡ bytes
  header_written bytes count are whole =
      let long : length bytes ≡ image_size count = whole.long in
      let all : take (length bytes) first ≡ first = take_all (length bytes) first (omega (arith, four)) in
      let begins : bytes_eq (take 4 bytes) first ≡ true = ap (bytes_eq (take 4 bytes)) (sym all) ∙ whole.begins in
      let begun : take 4 bytes ≡ first = (bytes_eq-Decides (take 4 bytes) first).0 begins in
      let behind : List ℕ = drop 4 bytes in
      let second : to_le_bytes w64 count ≡ take 8 (drop 4 bytes) = ap (to_le_bytes w64) (sym whole.counted) ∙ number_written (drop 4 bytes) (All-drop (λ byte. byte < 256) 4 bytes are) (omega (arith, length-drop 4 bytes)) in
      let third : drop 8 (drop 4 bytes) ≡ drop 12 bytes = drop-drop 8 4 bytes in
      ap (λ (back : List ℕ). first ++ back) (ap (λ (front : List ℕ). front ++ drop 12 bytes) second ∙ ap (λ (back : List ℕ). take 8 (drop 4 bytes) ++ back) (sym third) ∙ take-append-drop 8 (drop 4 bytes))
      ∙ ap (λ (front : List ℕ). front ++ drop 4 bytes) (sym begun)
      ∙ take-append-drop 4 bytes

  pub words_are_read : (bytes words : List ℕ) → AreBytes bytes → reading_by first bytes ≡ Ok words → AreWords words
  words_are_read bytes words are is =
      let parts = whole_if_read bytes words is in
      let whole = parts.0 in
      let long = length-numbers_at (count_in bytes) (drop 12 bytes) in
      let some : 0 < length (words_in (count_in bytes) bytes) = omega (arith, whole.some, long) in
      let few : length (words_in (count_in bytes) bytes) ≤ MAX_WORDS = omega (arith, whole.few, long) in
      subst AreWords parts.1 (record { some = some; few = few; fit = numbers_fit (count_in bytes) (drop 12 bytes) (All-drop (λ byte. byte < 256) 12 bytes are) })

  pub read_is_image : (bytes words : List ℕ) → AreBytes bytes → reading_by first bytes ≡ Ok words → image_by first words ≡ bytes
  read_is_image bytes words are is =
      let parts = whole_if_read bytes words is in
      let count = count_in bytes in
      let behind = drop 12 bytes in
      let long : length (drop 12 bytes) ≡ 8 * count_in bytes = omega (arith, length-drop 12 bytes, parts.0.long) in
      ap (image_by first) (sym parts.1)
      ∙ ap (λ (n : ℕ). first ++ to_le_bytes w64 n ++ flat_map (to_le_bytes w64) (words_in (count_in bytes) bytes)) (length-numbers_at (count_in bytes) (drop 12 bytes))
      ∙ ap (λ (back : List ℕ). first ++ to_le_bytes w64 (count_in bytes) ++ back) (numbers_written (count_in bytes) (drop 12 bytes) (All-drop (λ byte. byte < 256) 12 bytes are) long)
      ∙ append_assoc first (to_le_bytes w64 (count_in bytes)) behind
      ∙ header_written bytes (count_in bytes) are parts.0
