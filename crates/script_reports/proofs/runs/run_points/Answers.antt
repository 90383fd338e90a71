use Rattle.std.proofs.Common.{◌∙◌}
use Rattle.script_reports.specs.Reports.{points_text}
use Rattle.script_reports.proofs.Printing.{begins, when_failed}
use Rattle.script_reports.proofs.runs.run_points.Goals as goal

pub returns-clause-beginning : goal.returns-clause-beginning
returns-clause-beginning g c failed =
    begins (points_text c.args.wanted) _ _ _ c.in_ok-script.script c.deref.result.now c.in_ok-script.ensures.script
    (when_failed c.print.result _ failed c.print.ensures.beginning) (c.deref.ensures.value ∙ c.in_ok-printed.ensures.text)
