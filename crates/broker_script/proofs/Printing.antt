-- A beginning of a transcript.
use Rattle.std.proofs.Common.{ℕ, List}
use Rattle.std.specs.Prelude.{Option, Some, None, Result, Ok, Err, IsErrOf, OnErr}
use Rattle.std.specs.Io.KnownBytes.{Appends}
use Rattle.devices.specs.Devices.{AppendsBeginning}
use Rattle.broker_lines.specs.Scripted.{Scripted}
use Rattle.broker_script.specs.Run.{Prints, PrintsBeginning, SaysInput}
use Rattle.broker_script.specs.Transcript.{IsTranscript}

pub begins : (input old new : Option (List ℕ)) (script : Scripted) (printed : List ℕ) → SaysInput input script
    → IsTranscript script.broker script.statements printed → AppendsBeginning old new printed
    → PrintsBeginning input old new
begins None old new script printed says transcript sent = tt
begins (Some text) old new script printed says transcript sent =
    (printed, record { script = script; says = says; transcript = transcript }, sent)

pub prints : (input old new : Option (List ℕ)) (script : Scripted) (printed : List ℕ) → SaysInput input script
    → IsTranscript script.broker script.statements printed → Appends old new printed → Prints input old new
prints None old new script printed says transcript sent = tt
prints (Some text) old new script printed says transcript sent =
    (printed, record { script = script; says = says; transcript = transcript }, sent)

-- what holds on an error, where there is one
pub err_had : {T E P : Type 0} (r : Result T E) (e : E) → IsErrOf r e → OnErr r P → P
err_had (Ok t) e failed holds = absurd (cc (failed))
err_had (Err d) e failed holds = holds
