use Rattle.std.proofs.Common.{sym, subst}
use Rattle.std.proofs.lemmas.Result.{on_ok_weaker}
use Rattle.broker_script.specs.Transcript.{IsTranscript}
use Rattle.broker_script.proofs.Printing.{begins, err_had, prints}
use Rattle.broker_script.proofs.running.run.Goals as goal

pub returns-clause-printed : goal.returns-clause-printed
returns-clause-printed g c =
    let script = c.in_ok-script.script in
    on_ok_weaker c.print.result (prints _ _ _ script c.deref.result.now c.in_ok-script.ensures.script
    (subst (λ text. IsTranscript script.broker script.statements text) (sym c.deref.ensures.value) c.in_ok-printed.ensures.text))
    c.print.ensures.printed

pub returns-clause-beginning : goal.returns-clause-beginning
returns-clause-beginning g c failed =
    let script = c.in_ok-script.script in
    begins _ _ _ script c.deref.result.now c.in_ok-script.ensures.script
    (subst (λ text. IsTranscript script.broker script.statements text) (sym c.deref.ensures.value) c.in_ok-printed.ensures.text)
    (err_had c.print.result _ failed c.print.ensures.beginning)
