-- The lines of a text, and the words of a line.
use Rattle.std.specs.Prelude.{◌≡◌, ◌≢◌, ◌≤◌, ℕ, Bool, true, false, List, [], ◌∷◌, ◌==◌, ◌-◌, length, slice_index, take, if◌then◌else◌}
use Rattle.std.specs.List.{slice_split}

-- a newline at the end of a text begins no line
abbrev pub without_last_newline : List ℕ → List ℕ
without_last_newline text = if slice_index text (length text - 1) == 10 then take (length text - 1) text else text

-- newlines part the lines
abbrev pub lines_of : List ℕ → List (List ℕ)
lines_of text = slice_split (λ byte. byte == 10) (without_last_newline text)

-- one space parts two words
abbrev pub words_of : List ℕ → List (List ℕ)
words_of line = slice_split (λ byte. byte == 32) line

-- a line is this word alone
abbrev pub IsOneWord : List ℕ → List ℕ → Type 0
IsOneWord line word = words_of line ≡ word ∷ []

-- a line begins with this word, and has the words of the rest behind it; or nothing stands behind such a word
abbrev pub BeginsWith : List ℕ → List ℕ → List ℕ → Type 0
BeginsWith line word rest = words_of line ≡ word ∷ words_of rest

abbrev pub NothingFollows : List ℕ → List ℕ → Type 0
NothingFollows line word = (rest : List (List ℕ)) → words_of line ≡ word ∷ rest → rest ≡ []

-- whether a line says something: an empty line and a comment, which begins with `#`, are skipped
abbrev pub is_statement : List ℕ → Bool
is_statement [] = false
is_statement (byte ∷ bytes) = if byte == 35 then false else true

-- a word begins with no sign, and with a zero only where that is all of it
pub record HasPlainStart (word : List ℕ) : Type 0 where
  pub sign : slice_index word 0 ≢ 43
  pub zero : slice_index word 0 ≡ 48 → length word ≤ 1
