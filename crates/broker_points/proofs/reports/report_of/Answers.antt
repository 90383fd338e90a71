use Rattle.std.proofs.Common.{◌≡◌, ◌++◌, ℕ, List, length, map, ap, sym, subst, ◌∙◌}
use Rattle.std.proofs.lemmas.List.{length-map}
use Rattle.std.proofs.lemmas.Result.{IfOk-weaker}
use Rattle.std.specs.List.{concat}
use Rattle.std.specs.Prelude.{count_by, not}
use Rattle.broker_script.specs.Play.{Played, session_of}
use Rattle.broker_points.specs.Acts.{AreActsOf}
use Rattle.broker_points.specs.Run.{count_text}
use Rattle.broker_points.specs.Sweep.{text_of, AreOk}
use Rattle.broker_points.specs.declared.point.Point.{Point}
use Rattle.broker_points.proofs.Sweeps.{none_bad}
use Rattle.broker_points.proofs.reports.report_of.Goals as goal

-- the text of points that are ok
counted : (points : List Point) → AreOk points → (text : List ℕ)
    → text ≡ concat (map text_of points) ++ count_text (length points) (count_by (λ (p : Point). not p.ok) points)
    → text ≡ concat (map text_of points) ++ count_text (length (map text_of points)) 0
counted points ok text is =
    is ∙ ap (λ bad. concat (map text_of points) ++ count_text (length points) bad) (none_bad points ok)
    ∙ ap (λ n. concat (map text_of points) ++ count_text n 0) (sym (length-map points text_of))

pub returns-clause-report : goal.returns-clause-report
returns-clause-report g c =
    let points = c.in_ok-points.points.items in
    let deref : c.deref.result.now ≡ points = c.deref.ensures.value in
    let start = c.in_ok-player.ensures.played in
    IfOk-weaker c.report_text.result _ _ (λ text is. record {
      session = session_of c.in_ok-player.player;
      made = c.in_ok-player.ensures.made;
      acts = c.in_ok-acts.acts.items;
      are = subst (λ (p : Played). AreActsOf p c.args.statements.now c.in_ok-acts.acts.items) start c.in_ok-acts.ensures.acts;
      report = record {
        points = map text_of points;
        each = c.in_ok-points.ensures.points;
        is = counted points c.in_ok-points.ensures.ok text.items
            (is ∙ ap (λ (l : List Point). concat (map text_of l) ++ count_text (length l) (count_by (λ (p : Point). not p.ok) l)) deref);
      };
    }) c.report_text.ensures.text
