-- What is made of a line of text.
use Rattle.std.specs.Prelude.{ℕ, ◌≡◌, ◌⊎◌, List, [], Bool, true, false, Some}
use Rattle.serde_json.specs.Data.{Data}
use Rattle.serde_json.specs.Read.{read as read_text}
use Rattle.recording.specs.declared.line.Line.{Line}
use Rattle.recording.specs.declared.line.Line.TheVariants.{Final, Whole, CrashAt}
use Rattle.recording.specs.declared.reader.At.{At}
use Rattle.recording.specs.declared.reading.Lines.{Lines}
use Rattle.recording.specs.Members.{is_plain, said_in, said_of}
use Rattle.recording.specs.Reader.{read_of}
use Rattle.recording.specs.Reading.{IsLine}

-- the text is a JSON object that says this, if it is plain
pub record SaysSo (text : List ℕ) (line : Line) : Type 0 where
  pub json : Data
  pub is : read_text text ≡ Some json
  pub says : is_plain json ≡ true → Some (said_of line) ≡ said_in json

-- a line of this number, without a time
abbrev pub at_line : ℕ → At
at_line number = record { line = number; time = 0 }

-- whether a line has times
abbrev pub has_times : Line → Bool
has_times (Whole whole) = true
has_times (CrashAt moment) = true
has_times line = false

-- whether it says what was left
abbrev pub is_final : Line → Bool
is_final (Final values) = true
is_final line = false

-- a line of this number is taken: without times it adds what it says; what says what was left waits for the end
pub record TakesLine (old : Lines) (line : Line) (number : ℕ) (new : Lines) : Type 0 where
  pub plain : has_times line ≡ false → is_final line ≡ false
      → IsLine (read_of old.reader) line (at_line number) (read_of new.reader)
  pub waits : is_final line ≡ true → read_of new.reader ≡ read_of old.reader
  pub left : is_final line ≡ true → new.left ≡ Some line
  pub left_at : is_final line ≡ true → new.left_at ≡ number

-- a text of this number is added: an empty one says nothing
abbrev pub AddsText : Lines → List ℕ → ℕ → Lines → Type 0
AddsText old text number new =
    ((text ≡ []) × (read_of new.reader ≡ read_of old.reader))
    ⊎ ((line : Line) × SaysSo text line × TakesLine old line number new)
