-- A broker's script from a reader, followed to a writer.
use Rattle.std.specs.Prelude.{◌≡◌, ℕ, List, Option, Some, None, IfSome}
use Rattle.std.specs.Io.KnownBytes.{Appends}
use Rattle.devices.specs.Devices.{AppendsBeginning}
use Rattle.devices.specs.declared.device.Reader.{Ghosts as Reader}
use Rattle.devices.specs.declared.device.Writer.{Ghosts as Writer}
use Rattle.words.specs.declared.refusal.Refusal.{Refusal}
use Rattle.words.specs.declared.refusal.Refusal.TheVariants.{BadLine}
use Rattle.grammar.specs.Lines.{lines_of}
use Rattle.broker_lines.specs.Script.{SaysScript, IsFirstBad}
use Rattle.broker_lines.specs.Scripted.{Scripted}
use Rattle.broker_script.specs.Transcript.{IsTranscript}

-- where the bytes to read are known, they say this script
abbrev pub SaysInput : Option (List ℕ) → Scripted → Type 0
SaysInput None script = Unit {0}
SaysInput (Some text) script = SaysScript (lines_of text) script

-- a text says a script, and this is a transcript of it
pub record Transcribes (text printed : List ℕ) : Type 0 where
  pub script : Scripted
  pub says : SaysScript (lines_of text) script
  pub transcript : IsTranscript script.broker script.statements printed

-- where the bytes to read are known, a transcript of them was written
abbrev pub Prints : Option (List ℕ) → Option (List ℕ) → Option (List ℕ) → Type 0
Prints None old new = Unit {0}
Prints (Some text) old new = (printed : List ℕ) × Transcribes text printed × Appends old new printed

-- or only a beginning of one
abbrev pub PrintsBeginning : Option (List ℕ) → Option (List ℕ) → Option (List ℕ) → Type 0
PrintsBeginning None old new = Unit {0}
PrintsBeginning (Some text) old new = (printed : List ℕ) × Transcribes text printed × AppendsBeginning old new printed

-- a reader as a run finds it, and a writer before and after the run
module _ {R W : Type 0} (reader : Reader R) (writer : Writer W) where
  -- a transcript of what the reader had left was printed, or only a beginning of one
  abbrev pub PrintsRun : R → W → W → Type 0
  PrintsRun from old new = Prints (reader.left from) (writer.written old) (writer.written new)

  abbrev pub BeginsRun : R → W → W → Type 0
  BeginsRun from old new = PrintsBeginning (reader.left from) (writer.written old) (writer.written new)

-- a line that is called bad is the first bad one of the bytes to read
abbrev pub NamesBadLine : Option (List ℕ) → Refusal → Type 0
NamesBadLine input refusal =
    (number : ℕ) → refusal ≡ BadLine number → IfSome input (λ text. IsFirstBad (lines_of text) number)
