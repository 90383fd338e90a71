use Rattle.std.proofs.Common.{sym, subst}
use Rattle.playing.specs.Transcript.{IsTranscript}
use Rattle.script_reports.proofs.Printing.{transcript_begins}
use Rattle.script_reports.proofs.runs.run_story.Goals as goal

pub returns-clause-beginning : goal.returns-clause-beginning
returns-clause-beginning g c failed =
    let script = c.in_ok-script.script in
    transcript_begins _ _ _ script c.deref.result.now c.in_ok-script.ensures.script
    (subst (IsTranscript script.queue script.commands) (sym c.deref.ensures.value) c.in_ok-text.ensures.text)
    c.in-Err.ensures.beginning
