use Rattle.std.proofs.Common.{◌++◌, take, string_bytes, ap, ◌∙◌}
use Rattle.std.proofs.lemmas.Result.{on_ok_weaker}
use Rattle.script_reports.specs.Reports.{content_text, end_text, steps_text, told_all_text}
use Rattle.script_reports.proofs.Written.{then_next}
use Rattle.script_reports.proofs.reports.write_point.Goals as goal

pub returns-clause-text : goal.returns-clause-text
returns-clause-text c =
    let old = string_bytes c.args.text.now in
    let point = c.args.point.now in
    let one = steps_text c.args.number point.steps in
    let two = told_all_text (take c.args.clients point.told) in
    let three = content_text point.content.items in
    let told = then_next old one two _ _ c.in_ok-write_steps.ensures.text c.in_ok-write_told.ensures.text in
    let held = c.in_ok-write_content.ensures.text
    ∙ ap (λ l. string_bytes c.write_told.new.text ++ content_text l) c.deref.ensures.value in
    let content = then_next old (one ++ two) three _ _ told held in
    on_ok_weaker c.write_end.result (λ ended.
    then_next old (one ++ two ++ three) (end_text point.ok) _ _ content ended) c.write_end.ensures.text
