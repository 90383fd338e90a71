-- A beginning of the text of a script is one of what is printed of it.
use Rattle.std.proofs.Common.{◌≡◌, subst, ℕ, List}
use Rattle.std.specs.Prelude.{Option, Some, None, Result, Ok, Err, IsErrOf, OnErr}
use Rattle.std.specs.Io.KnownBytes.{Appends}
use Rattle.devices.specs.Devices.{AppendsBeginning}
use Rattle.playing.specs.Run.{BeginsTranscript, PrintsBeginning, PrintsTranscript, SaysInput}
use Rattle.playing.specs.Transcript.{IsTranscript}
use Rattle.grammar.specs.Scripted.{Scripted}
use Rattle.grammar.specs.declared.commands.Command.{Command}
use Rattle.grammar.specs.declared.commands.QueueLine.{QueueLine}

pub begins : (printed : Option QueueLine → List Command → List ℕ) (input old new : Option (List ℕ)) (script : Scripted)
    (text : List ℕ) → SaysInput input script → AppendsBeginning old new text
    → text ≡ printed script.queue script.commands → PrintsBeginning printed input old new
begins printed None old new script text says sent is = tt
begins printed (Some input) old new script text says sent is =
    (script.queue, script.commands, says, subst (AppendsBeginning old new) is sent)

-- and so it is of a transcript, which is one of some
pub transcript_begins : (input old new : Option (List ℕ)) (script : Scripted) (printed : List ℕ) → SaysInput input script
    → IsTranscript script.queue script.commands printed → AppendsBeginning old new printed
    → BeginsTranscript input old new
transcript_begins None old new script printed says transcript sent = tt
transcript_begins (Some text) old new script printed says transcript sent =
    (printed, record { script = script; says = says; transcript = transcript }, sent)

-- what holds at a failure
pub when_failed : {A E P : Type 0} (r : Result A E) (e : E) → IsErrOf r e → OnErr r P → P
when_failed (Ok x) e is holds = absurd (cc (is))
when_failed (Err y) e is holds = holds
