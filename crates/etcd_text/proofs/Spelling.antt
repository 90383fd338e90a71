-- A tail has one spelling, and what is spelled so is read.
use Rattle.std.proofs.Common.{◌≡◌, ◌≢◌, ◌≤◌, ◌<◌, ◌+◌, ◌-◌, ◌^◌, ℕ, zero, suc, Bool, true, false, eqb, ltb, cond, List, [], ◌∷◌, ◌++◌, Option, Some, None, Result, Ok, Err, length, take, drop, get_or, decimal, refl, sym, ap, ◌∙◌, subst, arith, lit<}
use Rattle.std.specs.Prelude.{position}
use Rattle.std.specs.List.{position_or_len}
use Rattle.std.specs.Char.{digit_value}
use Rattle.std.specs.Str.{IsUtf8}
use Rattle.std.specs.Str.Parse.{AllDigits, ParsesUnsigned}
use Rattle.std.proofs.lemmas.Bool.{eqb-false, eqb-true, ltb-false}
use Rattle.std.proofs.lemmas.List.{get_or-take, length-take, take-append-drop}
use Rattle.std.proofs.lemmas.List.Quantifiers.{position-Some}
use Rattle.std.proofs.lemmas.List.Sums.{fails_before_first}
use Rattle.std.proofs.lemmas.Slice.{between_to_end}
use Rattle.std.proofs.lemmas.Str.{IsUtf8-from_ascii}
use Rattle.std.proofs.lemmas.Fmt.{IsAscii-decimal, decimal_injective, decimal_is_IsNumeral, parse-decimal}
use Rattle.std.proofs.lemmas.Str.Parse.{IsNumeralModel, numerals_by_value, tells_all_ascii_digits}
use Rattle.std.specs.Str.{all_ascii_digits}
use Rattle.std.specs.Str.Parse.{digits_value}
use Rattle.std.proofs.Math.Seq.{drop-cons}
use Rattle.fenced.specs.Engine.{Tail}
use Rattle.fenced.proofs.Facts.{same_fields}
use Rattle.etcd_text.specs.Tails.{Fits, HasNoSpace, IsNoNumber, IsNoTail, IsParted, spelled}

-- ---- spaces

pub no_space_from : (bytes : List ℕ) → ((k : ℕ) → k < length bytes → eqb (get_or bytes k 0) 32 ≡ false) → HasNoSpace bytes
no_space_from [] none = tt
no_space_from (byte ∷ bytes) none =
    (eqb-false byte 32 (none 0 (omega arith)), no_space_from bytes (λ k few. none (suc k) (omega (arith, few))))

none_by : (bytes : List ℕ) (b : Bool) → ltb (position_or_len (λ byte. eqb byte 32) bytes) (length bytes) ≡ b → cond b (Some (position_or_len (λ byte. eqb byte 32) bytes)) None ≡ None → HasNoSpace bytes
none_by bytes true is none = absurd cc
none_by bytes false is none =
    let far : length bytes ≤ position_or_len (λ byte. eqb byte 32) bytes = ltb-false (position_or_len (λ byte. eqb byte 32) bytes) (length bytes) is in
    no_space_from bytes (λ k few. fails_before_first (λ byte. eqb byte 32) bytes k 0 (omega (arith, few, far)))

pub none_there : (bytes : List ℕ) → position (λ byte. eqb byte 32) bytes ≡ None → HasNoSpace bytes
none_there bytes none = none_by bytes (ltb (position_or_len (λ byte. eqb byte 32) bytes) (length bytes)) refl none

rest_is : (bytes : List ℕ) (at : ℕ) → drop (suc at) bytes ≡ take (length bytes - (at + 1)) (drop (at + 1) bytes)
rest_is bytes at =
    let one : suc at ≡ at + 1 = omega arith in
    ap (λ (k : ℕ). drop k bytes) one ∙ sym (between_to_end bytes (at + 1) (length bytes) (omega arith))

pub parted_at : (bytes : List ℕ) (at : ℕ) → position (λ byte. eqb byte 32) bytes ≡ Some at → IsParted bytes (take at bytes) (take (length bytes - (at + 1)) (drop (at + 1) bytes))
parted_at bytes at is =
    let found = position-Some (λ byte. eqb byte 32) bytes at 0 is in
    let few : at < length bytes = found.0 in
    record {
      whole =
          sym (take-append-drop at bytes)
          ∙ ap (λ (xs : List ℕ). take at bytes ++ xs) (drop-cons bytes at 0 few)
          ∙ ap (λ (b : ℕ). take at bytes ++ b ∷ drop (suc at) bytes) (eqb-true (get_or bytes at 0) 32 found.1)
          ∙ ap (λ (xs : List ℕ). take at bytes ++ 32 ∷ xs) (rest_is bytes at);
      first = no_space_from (take at bytes) (λ k below.
          let less : k < at = omega (arith, below, length-take at bytes) in
          ap (λ (b : ℕ). eqb b 32) (get_or-take at bytes k 0 less) ∙ found.2 k less);
    }

-- what is parted has one first part
pub parted_once : (front rest other others : List ℕ) → HasNoSpace front → HasNoSpace other → front ++ 32 ∷ rest ≡ other ++ 32 ∷ others → (front ≡ other) × (rest ≡ others)
parted_once [] rest [] others one two same = (refl, cc)
parted_once [] rest (b ∷ other) others one two same = let here : b ≡ 32 = cc in absurd (two.0 here)
parted_once (a ∷ front) rest [] others one two same = let here : a ≡ 32 = cc in absurd (one.0 here)
parted_once (a ∷ front) rest (b ∷ other) others one two same =
    let first : a ≡ b = cc in
    let behind : front ++ 32 ∷ rest ≡ other ++ 32 ∷ others = cc in
    let parts = parted_once front rest other others one.1 two.1 behind in
    (ap (λ (x : ℕ). x ∷ front) first ∙ ap (λ (xs : List ℕ). b ∷ xs) parts.0, parts.1)

pub not_parted : (bytes front rest : List ℕ) → HasNoSpace bytes → bytes ≡ front ++ 32 ∷ rest → ⊥
not_parted [] [] rest none same = cc
not_parted [] (b ∷ front) rest none same = cc
not_parted (a ∷ bytes) [] rest none same = let here : a ≡ 32 = cc in none.0 here
not_parted (a ∷ bytes) (b ∷ front) rest none same = let behind : bytes ≡ front ++ 32 ∷ rest = cc in not_parted bytes front rest none.1 behind

-- ---- numbers

digits_have_none : (digits : List ℕ) → AllDigits 10 digits → HasNoSpace digits
digits_have_none [] all = tt
digits_have_none (digit ∷ digits) all =
    (λ same. (let big : digit_value 32 < 10 = subst (λ (d : ℕ). digit_value d < 10) same all.0 in absurd (omega (arith, big))), digits_have_none digits all.1)

pub number_has_none : (n : ℕ) → n < 2 ^ 64 → HasNoSpace (decimal n)
number_has_none n small = digits_have_none (decimal n) (decimal_is_IsNumeral n small).0.1

pub number_is_text : (bytes : List ℕ) (n : ℕ) → n < 2 ^ 64 → bytes ≡ decimal n → IsUtf8 bytes
number_is_text bytes n small is = subst IsUtf8 (sym is) (IsUtf8-from_ascii (decimal n) (IsAscii-decimal n small))

-- ---- tails

pub one_spelling : (one other : Tail) → Fits one → Fits other → spelled one ≡ spelled other → one ≡ other
one_spelling one other fits_one fits_other same =
    let first = parted_once (decimal one.generation) (decimal one.count ++ 32 ∷ one.owner) (decimal other.generation) (decimal other.count ++ 32 ∷ other.owner)
    (number_has_none one.generation fits_one.generation) (number_has_none other.generation fits_other.generation) same in
    let second = parted_once (decimal one.count) one.owner (decimal other.count) other.owner
    (number_has_none one.count fits_one.count) (number_has_none other.count fits_other.count) first.1 in
    same_fields one other (decimal_injective one.generation other.generation fits_one.generation fits_other.generation first.0)
    (decimal_injective one.count other.count fits_one.count fits_other.count second.0) second.1

-- bytes that are parted otherwise than a tail's are no tail's
pub no_first : (bytes : List ℕ) → HasNoSpace bytes → IsNoTail bytes
no_first bytes none said fits is = not_parted bytes (decimal said.generation) (decimal said.count ++ 32 ∷ said.owner) none is

parts_of : (bytes front rest : List ℕ) (said : Tail) → IsParted bytes front rest → Fits said → bytes ≡ spelled said → (front ≡ decimal said.generation) × (rest ≡ decimal said.count ++ 32 ∷ said.owner)
parts_of bytes front rest said parted fits is =
    parted_once front rest (decimal said.generation) (decimal said.count ++ 32 ∷ said.owner) parted.first (number_has_none said.generation fits.generation) (sym parted.whole ∙ is)

pub no_second : (bytes front rest : List ℕ) → IsParted bytes front rest → HasNoSpace rest → IsNoTail bytes
no_second bytes front rest parted none said fits is =
    let parts = parts_of bytes front rest said parted fits is in
    not_parted rest (decimal said.count) said.owner none parts.1

pub no_generation : (bytes front rest : List ℕ) → IsParted bytes front rest → IsNoNumber front → IsNoTail bytes
no_generation bytes front rest parted none said fits is =
    let parts = parts_of bytes front rest said parted fits is in
    none said.generation fits.generation parts.0

pub no_count : (bytes front rest middle owner : List ℕ) → IsParted bytes front rest → IsParted rest middle owner → IsNoNumber middle → IsNoTail bytes
no_count bytes front rest middle owner parted then_parted none said fits is =
    let parts = parts_of bytes front rest said parted fits is in
    let then = parted_once middle owner (decimal said.count) said.owner then_parted.first (number_has_none said.count fits.count) (sym then_parted.whole ∙ parts.1) in
    none said.count fits.count then.0

pub is_spelled : (bytes front rest middle owner : List ℕ) (generation count : ℕ) → IsParted bytes front rest → IsParted rest middle owner → front ≡ decimal generation → middle ≡ decimal count
    → bytes ≡ spelled (record { generation = generation; count = count; owner = owner })
is_spelled bytes front rest middle owner generation count parted then_parted one two =
    parted.whole ∙ ap (λ (xs : List ℕ). front ++ 32 ∷ xs) then_parted.whole ∙ ap (λ (xs : List ℕ). xs ++ 32 ∷ (middle ++ 32 ∷ owner)) one
    ∙ ap (λ (xs : List ℕ). decimal generation ++ 32 ∷ (xs ++ 32 ∷ owner)) two
