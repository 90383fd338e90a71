use Rattle.std.proofs.Common.{◌∙◌}
use Rattle.script_reports.specs.Reports.{points_text}
use Rattle.script_reports.proofs.Printing.{begins}
use Rattle.script_reports.proofs.runs.run_page.Goals as goal

pub returns-clause-beginning : goal.returns-clause-beginning
returns-clause-beginning g c failed =
    begins (points_text c.args.wanted) _ _ _ c.in_ok-script.script c.deref.result.now c.in_ok-script.ensures.script
    c.in-Err.ensures.beginning (c.deref.ensures.value ∙ c.in_ok-found.ensures.text)
