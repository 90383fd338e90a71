-- Which lengths and words are those of an item.
use Rattle.std.proofs.Common.{◌≡◌, ℕ, zero, suc, ◌+◌, ◌-◌, ◌<◌, ◌≤◌, ◌⊎◌, inl, inr, List, [], ◌∷◌, ◌++◌, length, true, take, drop, get_or, refl, sym, ap, ◌∙◌, subst, arith}
use Rattle.std.specs.Prelude.{replicate, min, IsTrue, ◌↔◌, Bool, ◌&&◌, true, false, nat_le, nat_lt}
use Rattle.std.specs.List.{list_all}
use Rattle.std.specs.Int.{w64, to_le_bytes}
use Rattle.std.proofs.lemmas.Bool.{cases_lt, eqb-true, ltb-true, lt-ltb, leb-true, le-leb}
use Rattle.std.proofs.lemmas.List.Sums.{AllPass-from_list_all}
use Rattle.std.proofs.lemmas.List.{get_or-append_right, get_or-drop, get_or_past, length-take}
use Rattle.words.specs.Item.{AreParts, IsItem, item_of, row_of, first_word, second_word, third_word, is_zero}
use Rattle.words.specs.PlainQueue.{Value, FitsValue, fits_value}
use Rattle.words.proofs.Items.{zeros, row_again, bytes_taken}

-- a list is the other one but that some of its numbers are 0
abbrev pub IsCut : List ℕ → List ℕ → Type 0
IsCut cut whole = (k : ℕ) → (get_or cut k 0 ≡ get_or whole k 0) ⊎ (get_or cut k 0 ≡ 0)

joined : (xs ys xs' ys' : List ℕ) → length xs' ≡ length xs → IsCut xs' xs → IsCut ys' ys → IsCut (xs' ++ ys') (xs ++ ys)
joined [] ys [] ys' long front back k = back k
joined [] ys (x ∷ xs') ys' long front back k = absurd cc
joined (x ∷ xs) ys [] ys' long front back k = absurd cc
joined (x ∷ xs) ys (x' ∷ xs') ys' long front back zero = front 0
joined (x ∷ xs) ys (x' ∷ xs') ys' long front back (suc k) =
    joined xs ys xs' ys' (omega (arith, long)) (λ i. front (suc i)) back k

no_word : (k : ℕ) → get_or (to_le_bytes w64 0) k 0 ≡ 0
no_word zero = refl
no_word (suc zero) = refl
no_word (suc (suc zero)) = refl
no_word (suc (suc (suc zero))) = refl
no_word (suc (suc (suc (suc zero)))) = refl
no_word (suc (suc (suc (suc (suc zero))))) = refl
no_word (suc (suc (suc (suc (suc (suc zero)))))) = refl
no_word (suc (suc (suc (suc (suc (suc (suc zero))))))) = refl
no_word (suc (suc (suc (suc (suc (suc (suc (suc k)))))))) = refl

word_cut : (cut whole : ℕ) → (cut ≡ whole) ⊎ (cut ≡ 0) → IsCut (to_le_bytes w64 cut) (to_le_bytes w64 whole)
word_cut cut whole (inl same) k = inl (ap (λ (w : ℕ). get_or (to_le_bytes w64 w) k 0) same)
word_cut cut whole (inr none) k = inr (ap (λ (w : ℕ). get_or (to_le_bytes w64 w) k 0) none ∙ no_word k)

-- words of an item some of which are 0 are an item's of the same length
pub parts_cut : (len a b c a' b' c' : ℕ) → AreParts len a b c → (a' ≡ a) ⊎ (a' ≡ 0) → (b' ≡ b) ⊎ (b' ≡ 0) → (c' ≡ c) ⊎ (c' ≡ 0)
    → AreParts len a' b' c'
parts_cut len a b c a' b' c' are first second third = record {
  short = are.short;
  padded = λ k past. elim (row_cut k) [
    | inl same ↦ same ∙ are.padded k past
    | inr none ↦ none
  ];
}
  where
    row_cut : IsCut (row_of a' b' c') (row_of a b c)
    row_cut =
        joined (to_le_bytes w64 a ++ to_le_bytes w64 b) (to_le_bytes w64 c) (to_le_bytes w64 a' ++ to_le_bytes w64 b') (to_le_bytes w64 c') refl
        (joined (to_le_bytes w64 a) (to_le_bytes w64 b) (to_le_bytes w64 a') (to_le_bytes w64 b') refl (word_cut a' a first) (word_cut b' b second))
        (word_cut c' c third)

-- so the words of a length that is at most 24 may all be 0
pub parts_blank : (len : ℕ) → len ≤ 24 → AreParts len 0 0 0
parts_blank len short = record { short = short; padded = λ k past. no_row k }
  where
    no_row : (k : ℕ) → get_or (row_of 0 0 0) k 0 ≡ 0
    no_row k = zeros 24 k

-- the parts of an item are an item's
pub parts_are : (item : List ℕ) → IsItem item → AreParts (length item) (first_word item) (second_word item) (third_word item)
parts_are item h = record {
  short = h.short;
  padded = λ k past.
      ap (λ (row : List ℕ). get_or row k 0) (row_again item h)
      ∙ get_or-append_right item (replicate (24 - length item) 0) (length item) k 0 refl past
      ∙ zeros (24 - length item) (k - length item);
}

-- whatever a length and three words are, they have an item
word_bytes : (word k : ℕ) → get_or (to_le_bytes w64 word) k 0 < 256
word_bytes word zero = omega arith
word_bytes word (suc zero) = omega arith
word_bytes word (suc (suc zero)) = omega arith
word_bytes word (suc (suc (suc zero))) = omega arith
word_bytes word (suc (suc (suc (suc zero)))) = omega arith
word_bytes word (suc (suc (suc (suc (suc zero))))) = omega arith
word_bytes word (suc (suc (suc (suc (suc (suc zero)))))) = omega arith
word_bytes word (suc (suc (suc (suc (suc (suc (suc zero))))))) = omega arith
word_bytes word (suc (suc (suc (suc (suc (suc (suc (suc k)))))))) = omega arith

both_bytes : (xs ys : List ℕ) → ((k : ℕ) → get_or xs k 0 < 256) → ((k : ℕ) → get_or ys k 0 < 256) → (k : ℕ) → get_or (xs ++ ys) k 0 < 256
both_bytes [] ys front back k = back k
both_bytes (x ∷ xs) ys front back zero = front 0
both_bytes (x ∷ xs) ys front back (suc k) = both_bytes xs ys (λ i. front (suc i)) back k

pub item_fits : (len a b c : ℕ) → IsItem (item_of len a b c)
item_fits len a b c = record {
  short = let long = length-take (min len 24) (row_of a b c) in grind (arith, long);
  bytes = λ k. bytes_taken (row_of a b c) (min len 24) k (both_bytes (to_le_bytes w64 a ++ to_le_bytes w64 b) (to_le_bytes w64 c)
      (both_bytes (to_le_bytes w64 a) (to_le_bytes w64 b) (word_bytes a) (word_bytes b)) (word_bytes c));
}

-- ---- the test of them

all_zeros : (xs : List ℕ) → list_all is_zero xs ≡ true → (k : ℕ) → get_or xs k 0 ≡ 0
all_zeros xs all k = go (cases_lt k (length xs))
  where
    go : (k < length xs) ⊎ (length xs ≤ k) → get_or xs k 0 ≡ 0
    go (inl below) = let at = AllPass-from_list_all is_zero xs all k 0 below in eqb-true _ _ at
    go (inr past) = get_or_past xs k 0 past

zeros_all : (xs : List ℕ) → ((k : ℕ) → get_or xs k 0 ≡ 0) → list_all is_zero xs ≡ true
zeros_all [] none = refl
zeros_all (x ∷ xs) none =
    let first : x ≡ 0 = none 0 in
    let rest = zeros_all xs (λ k. none (suc k)) in
    rw (first, rest) refl

pub parts_told : (len a b c : ℕ) → len ≤ 24 → IsTrue (list_all is_zero (drop len (row_of a b c))) ↔ AreParts len a b c
parts_told len a b c short =
    let row = row_of a b c in (
      λ all. record {
        short = short;
        padded = λ k past.
            let there : len + (k - len) ≡ k = omega arith in
            subst (λ (i : ℕ). get_or row i 0 ≡ 0) there
            (sym (get_or-drop len row (k - len) 0) ∙ all_zeros (drop len row) all (k - len));
      },
      λ are. zeros_all (drop len row) (λ k. get_or-drop len row k 0 ∙ are.padded (len + k) (omega arith)),
    )

-- ---- which bytes are an item's

both_true : (a b : Bool) → (a && b) ≡ true → (a ≡ true) × (b ≡ true)
both_true true b is = (refl, is)
both_true false b is = absurd (cc)

byte_at : (xs : List ℕ) → list_all (λ byte. nat_lt byte 256) xs ≡ true → (k : ℕ) → get_or xs k 0 < 256
byte_at xs all k = go (cases_lt k (length xs))
  where
    go : (k < length xs) ⊎ (length xs ≤ k) → get_or xs k 0 < 256
    go (inl below) = ltb-true _ _ (AllPass-from_list_all (λ byte. nat_lt byte 256) xs all k 0 below)
    go (inr past) = rw (get_or_past xs k 0 past) (omega arith)

bytes_all : (xs : List ℕ) → ((k : ℕ) → get_or xs k 0 < 256) → list_all (λ byte. nat_lt byte 256) xs ≡ true
bytes_all [] bytes = refl
bytes_all (x ∷ xs) bytes =
    let first : nat_lt x 256 ≡ true = lt-ltb x 256 (bytes 0) in
    let rest = bytes_all xs (λ k. bytes (suc k)) in
    rw (first, rest) refl

pub fits_told : (value : Value) → fits_value value ≡ true → FitsValue value
fits_told value told =
    let parts = both_true (nat_le (length value) 24) (list_all (λ byte. nat_lt byte 256) value) told in
    record { short = leb-true (length value) 24 parts.0; bytes = byte_at value parts.1 }

pub fits_tells : (value : Value) → FitsValue value → fits_value value ≡ true
fits_tells value fits = rw (le-leb (length value) 24 fits.short, bytes_all value fits.bytes) refl
