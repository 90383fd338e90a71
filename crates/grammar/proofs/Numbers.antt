-- A word that begins as a number is one exactly if it parses, and no other word is.
use Rattle.std.proofs.Common.{◌≡◌, ◌≢◌, ℕ, zero, suc, ◌<◌, ◌≤◌, ◌^◌, true, List, length, get_or, slice_index, decimal, sym, arith, lit<}
use Rattle.std.proofs.lemmas.Fmt.{digits_decimal, first_decimal, decimal_digit, decimal-digits_value, parse-decimal, decimal_nonempty}
use Rattle.std.proofs.lemmas.Str.Parse.{IsNumeralModel, numerals_by_value, tells_all_ascii_digits, not_in_digits, parse_plain}
use Rattle.std.specs.Str.{all_ascii_digits}
use Rattle.std.specs.Str.Parse.{digits_value, ParsesUnsigned}
use Rattle.std.specs.Prelude.{Result, Ok, Err, MatchOption}
use Rattle.std.specs.Result.{result_ok}
use Rattle.grammar.specs.Lines.{HasPlainStart}

pub own : IsNumeralModel (λ ds. all_ascii_digits ds ≡ true) (digits_value 10)
own = numerals_by_value _ tells_all_ascii_digits

-- a number begins with no sign
pub decimal_no_sign : (n : ℕ) → n < 2 ^ 64 → slice_index (decimal n) 0 ≢ 43
decimal_no_sign n h = not_in_digits own (decimal n) 43 (digits_decimal own n h) (λ r. omega (arith, r.0, r.1)) 0 (decimal_nonempty n h)

-- a number begins with a zero only where it is 0
pub decimal_no_zero : (n : ℕ) → n < 2 ^ 64 → slice_index (decimal n) 0 ≡ 48 → length (decimal n) ≤ 1
decimal_no_zero zero h e = rw (decimal_digit 0 (lit< tt)) (omega arith)
decimal_no_zero (suc n) h e = let first : 48 < get_or (decimal (suc n)) 0 0 = first_decimal (suc n) (omega arith) h in absurd (omega (arith, first, e))

-- what parses, and begins as a number, is one
pub parsed_is_decimal : {E : Type 0} (word : List ℕ) (r : Result ℕ E) → HasPlainStart word → ParsesUnsigned 64 10 word r → MatchOption (result_ok r) ((n : ℕ) → n < 2 ^ 64 → word ≢ decimal n) (λ n. word ≡ decimal n)
parsed_is_decimal {E} word (Ok x) plain h =
    let told = parse_plain own {E = E} 64 word (Ok x) h plain.sign in
    rw told.1 (sym (decimal-digits_value own word told.0.0 told.0.1 (λ e. omega (arith, plain.zero e, told.0.1)) told.0.2))
parsed_is_decimal {E} word (Err e) plain h =
    λ n small is. (let bad : Err e ≡ Ok n = parse-decimal 64 n word (Err e) small small is h in cc)
