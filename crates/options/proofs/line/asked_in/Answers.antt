use Rattle.std.proofs.lemmas.Result.{IfOk-weaker, on_err_weaker}
use Rattle.clap.specs.Words.{found_of}
use Rattle.options.specs.Asked.{AsksFor, FitsAll}
use Rattle.options.proofs.Subcommand.{held_of_met}
use Rattle.options.proofs.line.asked_in.Goals as goal

pub returns-clause-asked : goal.returns-clause-asked
returns-clause-asked c = IfOk-weaker c.asked.result _ _ (λ o h. held_of_met (λ command values. AsksFor command values o) c.args.matches.now c.in-Some.command.now
    (found_of c.in-Some.given.now) c.in-Some.ensures.name c.in-Some.ensures.rows h) c.asked.ensures.asked

pub returns-clause-misfit : goal.returns-clause-misfit
returns-clause-misfit c = on_err_weaker c.asked.result (λ h. held_of_met (λ command values. ¬ (FitsAll command values)) c.args.matches.now c.in-Some.command.now
    (found_of c.in-Some.given.now) c.in-Some.ensures.name c.in-Some.ensures.rows h) c.asked.ensures.misfit
