use Rattle.std.proofs.lemmas.Result.{IfOk-weaker, on_err_weaker}
use Rattle.clap.specs.Words.{found_of}
use Rattle.options.specs.PqxAsked.{AllFit, Asks}
use Rattle.options.proofs.Subcommand.{held_of_met}
use Rattle.options.proofs.pqx_line.pqx_asked_in.Goals as goal

pub returns-in-Some-clause-asked : goal.returns-in-Some-clause-asked
returns-in-Some-clause-asked c = IfOk-weaker c.asked_by.result _ _ (λ o h. held_of_met (λ command values. Asks command values o) c.args.matches.now c.in-Some.command.now
    (found_of c.in-Some.given.now) c.in-Some.ensures.name c.in-Some.ensures.rows h) c.asked_by.ensures.asked

pub returns-in-Some-clause-misfit : goal.returns-in-Some-clause-misfit
returns-in-Some-clause-misfit c = on_err_weaker c.asked_by.result (λ h. held_of_met (λ command values. ¬ (AllFit values)) c.args.matches.now c.in-Some.command.now
    (found_of c.in-Some.given.now) c.in-Some.ensures.name c.in-Some.ensures.rows h) c.asked_by.ensures.misfit
