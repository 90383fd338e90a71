-- A script from a reader, followed to a writer.
use Rattle.std.specs.Prelude.{◌≡◌, ◌≢◌, ◌⊎◌, ℕ, List, Option, Some, None, IfSome, IsErrOf, Result}
use Rattle.std.specs.Io.KnownBytes.{Appends, Keeps}
use Rattle.devices.specs.Devices.{AppendsBeginning}
use Rattle.words.specs.declared.refusal.Refusal.{Refusal}
use Rattle.words.specs.declared.refusal.Refusal.TheVariants.{BadLine, NoMemory, ReadFailed, WriteFailed}
use Rattle.grammar.specs.Lines.{lines_of}
use Rattle.grammar.specs.Scripted.{Scripted}
use Rattle.grammar.specs.Script.{Says, SaysScript, IsFirstBad}
use Rattle.grammar.specs.declared.commands.Command.{Command}
use Rattle.grammar.specs.declared.commands.QueueLine.{QueueLine}
use Rattle.playing.specs.Transcript.{IsTranscript}

-- where the bytes to read are known, they say this script
abbrev pub SaysInput : Option (List ℕ) → Scripted → Type 0
SaysInput None script = Unit {0}
SaysInput (Some text) script = SaysScript (lines_of text) script

-- where the bytes to read are known, they say a script, and what is printed of it was written
abbrev pub Prints : (Option QueueLine → List Command → List ℕ)
    → Option (List ℕ) → Option (List ℕ) → Option (List ℕ) → Type 0
Prints printed None old new = Unit {0}
Prints printed (Some text) old new =
    (queue : Option QueueLine) × (commands : List Command)
    × Says (lines_of text) queue commands × Appends old new (printed queue commands)

-- or only a beginning of that
abbrev pub PrintsBeginning : (Option QueueLine → List Command → List ℕ)
    → Option (List ℕ) → Option (List ℕ) → Option (List ℕ) → Type 0
PrintsBeginning printed None old new = Unit {0}
PrintsBeginning printed (Some text) old new =
    (queue : Option QueueLine) × (commands : List Command)
    × Says (lines_of text) queue commands × AppendsBeginning old new (printed queue commands)

-- a text says a script, and this is a transcript of it
pub record Transcribes (text printed : List ℕ) : Type 0 where
  pub script : Scripted
  pub says : SaysScript (lines_of text) script
  pub transcript : IsTranscript script.queue script.commands printed

-- where the bytes to read are known, a transcript of them was written
abbrev pub PrintsTranscript : Option (List ℕ) → Option (List ℕ) → Option (List ℕ) → Type 0
PrintsTranscript None old new = Unit {0}
PrintsTranscript (Some text) old new = (printed : List ℕ) × Transcribes text printed × Appends old new printed

-- or only a beginning of one
abbrev pub BeginsTranscript : Option (List ℕ) → Option (List ℕ) → Option (List ℕ) → Type 0
BeginsTranscript None old new = Unit {0}
BeginsTranscript (Some text) old new = (printed : List ℕ) × Transcribes text printed × AppendsBeginning old new printed

-- what holds where a writer failed
abbrev pub OnWriteFailed : {A : Type 0} → Result A Refusal → Type 0 → Type 0
OnWriteFailed result holds = IsErrOf result WriteFailed → holds

-- a failed read, want of memory, or a bad line
abbrev pub IsReadRefusal : Refusal → Type 0
IsReadRefusal refusal =
    (refusal ≡ ReadFailed) ⊎ (refusal ≡ NoMemory) ⊎ ((number : ℕ) × (refusal ≡ BadLine number))

-- a failed read, want of memory, a failed write, or a bad line
abbrev pub IsRunRefusal : Refusal → Type 0
IsRunRefusal refusal =
    (refusal ≡ ReadFailed) ⊎ (refusal ≡ NoMemory) ⊎ (refusal ≡ WriteFailed)
    ⊎ ((number : ℕ) × (refusal ≡ BadLine number))

-- a line that is called bad is the first bad one of the bytes to read
abbrev pub NamesBadLine : Option (List ℕ) → Refusal → Type 0
NamesBadLine input refusal =
    (number : ℕ) → refusal ≡ BadLine number → IfSome input (λ text. IsFirstBad (lines_of text) number)

-- nothing was written, unless the writing failed
abbrev pub WritesNothing : Option (List ℕ) → Option (List ℕ) → Refusal → Type 0
WritesNothing old new refusal = refusal ≢ WriteFailed → Keeps old new
