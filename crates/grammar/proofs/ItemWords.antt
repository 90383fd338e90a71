-- Words that are items: each is the text of one item, and no other text spells that item.
use Rattle.std.proofs.Common.{◌≡◌, ◌≢◌, ℕ, suc, zero, ◌+◌, ◌*◌, ◌/◌, ◌%◌, ◌<◌, ◌≤◌, ⊎_elim, subst, Bool, true, false, List, [], ◌∷◌, length, Option, Some, None, refl, sym, ap, ◌∙◌, arith, if◌then◌else◌}
use Rattle.std.specs.Prelude.{◌==◌, ◌&&◌, nat_le, Result, Ok, Err, MatchOption, slice_index, codes, unwrap_or}
use Rattle.std.specs.List.{list_all}
use Rattle.std.specs.Result.{result_ok, result_unwrap_or}
use Rattle.std.proofs.lemmas.Bool.{eqb-true, cases_lt}
use Rattle.std.proofs.lemmas.Bool.Decides.{nat_tests}
use Rattle.hex.specs.Hex.{decode_of, decode_pairs, encode_lower, encode_with, lower_digits, hex_digit_value}
use Rattle.hex.specs.Hex.{digit_or_error, value_at, pair_value, ◌>>=◌}
use Rattle.hex.specs.declared.error.FromHexError.{FromHexError}
use Rattle.hex.proofs.HexLemmas.{decode_of-ok, decode_of-even}
use Rattle.words.proofs.Facts.{hex_again}
use Rattle.words.specs.Item.{IsItem, is_hex, is_lower_digit, item_in}
use Rattle.words.specs.PlainQueue.{Value, FitsValue}
use Rattle.words.specs.Text.{value_text}

-- each lowercase digit is the one of its value
abbrev is_own_digit : ℕ → Bool
is_own_digit c = if is_lower_digit c then (slice_index lower_digits (unwrap_or (hex_digit_value c) 99) == c) else true

abbrev all_own : ℕ → Bool
all_own zero = true
all_own (suc n) = is_own_digit n && all_own n

both : (p q : Bool) → (p && q) ≡ true → (p ≡ true) × (q ≡ true)
both true true h = (refl, refl)
both true false h = (refl, h)
both false q h = (h, absurd (cc))

all_own_at : (n c : ℕ) → c < n → all_own n ≡ true → is_own_digit c ≡ true
all_own_at zero c below h = absurd (omega arith)
all_own_at (suc n) c below h = ⊎_elim
    (λ (lt : c < n). all_own_at n c lt (both (is_own_digit n) (all_own n) h).1)
    (λ (le : n ≤ c). let same : n ≡ c = omega arith in
    subst (λ (k : ℕ). is_own_digit k ≡ true) same (both (is_own_digit n) (all_own n) h).0)
    (cases_lt c n)

own_digit : (c v : ℕ) → is_lower_digit c ≡ true → hex_digit_value c ≡ Some v → slice_index lower_digits v ≡ c
own_digit c v low is =
    let test : all_own 103 ≡ true = refl in
    let below : c < 103 = grind (arith, nat_tests) in
    let own : is_own_digit c ≡ true = all_own_at 103 c below test in
    let value : slice_index lower_digits (unwrap_or (hex_digit_value c) 99) ≡ slice_index lower_digits v =
    ap (λ (o : Option ℕ). slice_index lower_digits (unwrap_or o 99)) is in
    let here : (if true then (slice_index lower_digits (unwrap_or (hex_digit_value c) 99) == c) else true) ≡ true =
    ap (λ (b : Bool). if b then (slice_index lower_digits (unwrap_or (hex_digit_value c) 99) == c) else true) (sym low) ∙ own in
    sym value ∙ eqb-true (slice_index lower_digits (unwrap_or (hex_digit_value c) 99)) c here

-- what an `Ok` after `>>=` shows
bind_ok : {A B : Type 0} (r : Result A FromHexError) (f : A → Result B FromHexError) (y : B)
    → (r >>= f) ≡ Ok y → (x : A) × (r ≡ Ok x) × (f x ≡ Ok y)
bind_ok {A} {B} (Ok x) f y h = (x, refl, h)
bind_ok {A} {B} (Err e) f y h = cc h

-- the value of a digit that read
digit_read : (c i : ℕ) (o : Option ℕ) (v : ℕ) → digit_or_error c i o ≡ Ok v → o ≡ Some v
digit_read c i (Some w) v h = ap Some (ap (λ (r : Result ℕ FromHexError). result_unwrap_or r 0) h)
digit_read c i None v h = cc h

-- a digit's value is below 16
value_small : (c v : ℕ) → hex_digit_value c ≡ Some v → v < 16
value_small c v h = grind (arith)

-- lowercase digits that decode are the text of what they decode to
spelled : (i : ℕ) (text bytes : List ℕ) → list_all is_lower_digit text ≡ true → decode_pairs i text ≡ Ok bytes
    → encode_lower bytes ≡ text
unfolding decode_pairs encode_with
spelled i [] bytes low h =
    let e : [] ≡ bytes = ap (λ (r : Result (List ℕ) FromHexError). result_unwrap_or r []) h in
    rw (← e) refl
spelled i (a ∷ []) bytes low h = cc h
spelled i (a ∷ b ∷ rest) bytes low h =
    let p0 = bind_ok (pair_value a b i) _ bytes h in
    let p1 = bind_ok (value_at a i) _ p0.0 p0.1 in
    let p2 = bind_ok (value_at b (i + 1)) _ p0.0 p1.2 in
    let p3 = bind_ok (decode_pairs (i + 2) rest) _ bytes p0.2 in
    let e : p0.0 ∷ p3.0 ≡ bytes = ap (λ (r : Result (List ℕ) FromHexError). result_unwrap_or r []) p3.2 in
    let byte : p1.0 * 16 + p2.0 ≡ p0.0 = ap (λ (r : Result ℕ FromHexError). result_unwrap_or r 0) p2.2 in
    let first = both (is_lower_digit a) (list_all is_lower_digit (b ∷ rest)) low in
    let second = both (is_lower_digit b) (list_all is_lower_digit rest) first.1 in
    let is_a : hex_digit_value a ≡ Some p1.0 = digit_read a i (hex_digit_value a) p1.0 p1.1 in
    let is_b : hex_digit_value b ≡ Some p2.0 = digit_read b (i + 1) (hex_digit_value b) p2.0 p2.1 in
    let small : p2.0 < 16 = value_small b p2.0 is_b in
    let high : p0.0 / 16 ≡ p1.0 = omega arith in
    let lower : p0.0 % 16 ≡ p2.0 = omega arith in
    rw (← e, high, lower, own_digit a p1.0 first.0 is_a, own_digit b p2.0 second.0 is_b, spelled (i + 2) rest p3.0 second.1 p3.1) refl

-- what a text spells is an item, and the text is that item's
pub spells : (text item : List ℕ) → item_in text ≡ Some item → (encode_lower item ≡ text) × IsItem item
spells text item h = go (is_hex text) refl h
  where
    decoded : (r : Result (List ℕ) FromHexError) → result_ok r ≡ Some item → r ≡ Ok item
    decoded (Ok bytes) e = ap Ok (cc e)
    decoded (Err f) e = cc e

    go : (b : Bool) → is_hex text ≡ b → (if b then result_ok (decode_of text) else None) ≡ Some item
        → (encode_lower item ≡ text) × IsItem item
    go true hex e =
        let ok : decode_of text ≡ Ok item = decoded (decode_of text) e in
        let parts = decode_of-ok text item ok in
        let whole = both (nat_le (length text) 48) (list_all is_lower_digit text) hex in
        let few : length text ≤ 48 = grind (arith, nat_tests) in (
          spelled 0 text item whole.1 (sym (decode_of-even text parts.0) ∙ ok),
          record { short = omega (arith, parts.2, few); bytes = parts.3 },
        )
    go false hex e = cc e

-- the text of an item is no empty word
pub never_empty : (value : Value) → length (value_text value) ≡ 0 → ⊥
unfolding encode_with
never_empty [] is = absurd (omega (arith, is))
never_empty (first ∷ rest) is = absurd (omega (arith, is))

-- a word that is not a dot is an item exactly where it spells one
pub word_spelled : (word : List ℕ) (r : Option Value) → (word ≡ codes "." → ⊥) → (word ≡ [] → ⊥) → r ≡ item_in word
    → MatchOption r ((value : Value) → FitsValue value → word ≢ value_text value)
    (λ value. (word ≡ value_text value) × FitsValue value)
unfolding encode_with
word_spelled word (Some value) no_dot some is = go value (spells word value (sym is))
  where
    go : (value : Value) → (encode_lower value ≡ word) × IsItem value → (word ≡ value_text value) × FitsValue value
    go [] told = absurd (some (sym told.0))
    go (first ∷ rest) told = (sym told.0, told.1)
word_spelled word None no_dot some is = go
  where
    go : (value : Value) → FitsValue value → word ≢ value_text value
    go [] fits same = no_dot same
    go (first ∷ rest) fits same =
        let found : item_in word ≡ Some (first ∷ rest) = ap item_in same ∙ hex_again (first ∷ rest) fits in
        cc (found, is)

-- a dot is the empty item, which no digits spell
pub dot_spelled : (word : List ℕ) (r : Option Value) → word ≡ codes "." → r ≡ item_in []
    → MatchOption r ((value : Value) → FitsValue value → word ≢ value_text value)
    (λ value. (word ≡ value_text value) × FitsValue value)
unfolding decode_pairs
dot_spelled word (Some []) dot is = (dot, record { short = omega arith; bytes = λ k. omega arith })
dot_spelled word (Some (first ∷ rest)) dot is = cc is
dot_spelled word None dot is = cc is
