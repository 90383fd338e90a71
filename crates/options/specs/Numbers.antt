-- What an option that is a number comes to.
use Rattle.std.specs.Prelude.{ℕ, ◌≤◌, List, Option, Some, None, OkIff, Result, ⊤, option_map}
use Rattle.std.specs.Borrow.{Bor}
use Rattle.std.specs.Str.Parse.{IsNumeral, digits_value, without_leading_plus}

-- the text that an option was given, if it was given one
abbrev pub given_text : Option (Bor (List ℕ)) → Option (List ℕ)
given_text given = option_map (λ s. s.now) given

-- the number that the digits of a text write, before which a plus may stand
abbrev pub decimal_value : List ℕ → ℕ
decimal_value text = digits_value 10 (without_leading_plus text)

-- the text is a whole number from least to most
abbrev pub IsWithin : ℕ → ℕ → List ℕ → Type 0
IsWithin least most text =
    IsNumeral 10 (without_leading_plus text) × (least ≤ decimal_value text) × (decimal_value text ≤ most)

-- no text is given, or one that is a whole number from least to most
abbrev pub Fits : ℕ → ℕ → Option (List ℕ) → Type 0
Fits least most None = ⊤
Fits least most (Some text) = IsWithin least most text

-- the number that is given, and where none is the default
abbrev pub number_of : ℕ → Option (List ℕ) → ℕ
number_of default None = default
number_of default (Some text) = decimal_value text

-- an option with these limits and this default is read from the text that is given: its number, if it fits, and else an
-- error
abbrev pub IsNumberGiven : {E : Type 0} → Option (List ℕ) → (least most default : ℕ) → Result ℕ E → Type 0
IsNumberGiven given least most default result = OkIff result (Fits least most given) (number_of default given)
