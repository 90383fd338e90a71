use Rattle.std.proofs.Common.{◌≡◌, ◌+◌, Ok, map, sym, ap, ◌∙◌}
use Rattle.std.specs.List.{range_with_len}
use Rattle.grammar.specs.Grammar.{shape_by}
use Rattle.explore.specs.Acts.{acts_of}
use Rattle.explore.specs.Points.{found_of, part_of, points_of}
use Rattle.grammar.specs.Scripted.{Scripted}
use Rattle.explore.proofs.Sweeps.{part_of-none, points_are, all_ok}
use Rattle.explore.proofs.sweep.watched_points.Goals as goal

pub returns-in_default-clause-points : goal.returns-in_default-clause-points
returns-in_default-clause-points g c =
    let script : Scripted = c.args.script.now in
    ap (map found_of) (c.report_of.ensures.points ∙ c.new.ensures.items)
    ∙ sym (ap (λ q. part_of c.args.wanted.part (points_of q script.commands c.args.wanted.evictions)) (sym c.queue.ensures.queue ∙ c.in_default.is)
    ∙ part_of-none c.args.wanted.part)

pub returns-clause-points : goal.returns-clause-points
returns-clause-points g c =
    let script : Scripted = c.args.script.now in
    let found : Ok c.in_ok-layout.layout ≡ Ok (shape_by c.in-Some.queue) = sym c.in_ok-layout.was ∙ c.layout.ensures in
    let made : c.in_ok-layout.layout ≡ shape_by c.in-Some.queue = cc (found) in
    let acts = c.in_ok-acts.ensures.acts ∙ ap (acts_of c.in_ok-layout.layout) c.commands.ensures in
    ap (map found_of) c.report_of-2.ensures.points
    ∙ points_are c.in_ok-layout.layout c.in_ok-acts.acts.items c.args.wanted script.commands script.queue
    c.in-Some.queue (map found_of c.in_ok-all_points.field-0.items) c.ends-from.result.0 c.ends-from.result.1
    c.in_ok-all_points.ensures.points (ap (λ n. part_of c.args.wanted.part (range_with_len 0 (n + 1))) (sym (c.len.ensures ∙ c.in_ok-acts.acts.ok.0)) ∙ c.ends-from.ensures.part) acts made (sym c.queue.ensures.queue ∙ c.in-Some.is)

pub returns-clause-bad : goal.returns-clause-bad
returns-clause-bad g c =
    c.report_of-2.ensures.bad
    ∙ all_ok c.in_ok-layout.layout c.in_ok-acts.acts.items c.args.wanted.evictions c.in_ok-all_points.field-0.items _
    c.in_ok-all_points.ensures.points
