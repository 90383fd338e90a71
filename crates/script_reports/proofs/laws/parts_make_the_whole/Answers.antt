use Rattle.std.proofs.Common.{◌+◌, ◌++◌, take, drop, sym, ap, ◌∙◌}
use Rattle.std.proofs.lemmas.List.{drop-drop}
use Rattle.script_reports.specs.Reports.{numbered_text}
use Rattle.script_reports.proofs.Parts.{last_lines, next_lines}
use Rattle.script_reports.proofs.laws.parts_make_the_whole.Goals as goal

pub returns-clause-joined : goal.returns-clause-joined
returns-clause-joined c clients from first second points =
    ap (λ l. numbered_text clients from (take first (drop from points)) ++ numbered_text clients (from + first) (take second l))
    (sym (drop-drop first from points))
    ∙ next_lines clients from first second (drop from points)

pub returns-clause-last : goal.returns-clause-last
returns-clause-last c clients from first points =
    ap (λ l. numbered_text clients from (take first (drop from points)) ++ numbered_text clients (from + first) l)
    (sym (drop-drop first from points))
    ∙ last_lines clients from first (drop from points)
