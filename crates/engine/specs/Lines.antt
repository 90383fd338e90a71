-- The lines of an input.
use Rattle.std.specs.Prelude.{◌≡◌, ◌≢◌, ℕ, ◌+◌, ◌<◌, ◌==◌, List, [], ◌∷◌, ◌++◌, length, take, drop, Option, Some, None, if◌then◌else◌}
use Rattle.engine.specs.declared.limits.TheConstants.{NEWLINE}

-- the byte in front of the first line
abbrev pub before_first : ℕ → List (List ℕ) → List (List ℕ)
before_first byte [] = (byte ∷ []) ∷ []
before_first byte (line ∷ lines) = (byte ∷ line) ∷ lines

-- A line ends with a newline; a last one without it is a line, and an empty rest is none.
abbrev pub lines_of : List ℕ → List (List ℕ)
lines_of [] = []
lines_of (byte ∷ bytes) = if byte == NEWLINE then [] ∷ lines_of bytes else before_first byte (lines_of bytes)

-- the line that bytes with no newline are, if there are any
abbrev pub last_line_of : List ℕ → List (List ℕ)
last_line_of [] = []
last_line_of (byte ∷ bytes) = (byte ∷ bytes) ∷ []

abbrev pub HasNoNewline : List ℕ → Type 0
HasNoNewline [] = Unit {0}
HasNoNewline (byte ∷ bytes) = (byte ≢ NEWLINE) × HasNoNewline bytes

abbrev pub HaveNoNewline : List (List ℕ) → Type 0
HaveNoNewline [] = Unit {0}
HaveNoNewline (line ∷ lines) = HasNoNewline line × HaveNoNewline lines

-- the lines, each with a newline behind it
abbrev pub ended_lines : List (List ℕ) → List ℕ
ended_lines [] = []
ended_lines (line ∷ lines) = line ++ NEWLINE ∷ ended_lines lines

-- the place of the first newline, if there is one
abbrev pub IsFirstNewline : List ℕ → Option ℕ → Type 0
IsFirstNewline bytes None = HasNoNewline bytes
IsFirstNewline bytes (Some n) =
    (n < length bytes) × HasNoNewline (take n bytes) × (bytes ≡ take n bytes ++ NEWLINE ∷ drop (n + 1) bytes)
