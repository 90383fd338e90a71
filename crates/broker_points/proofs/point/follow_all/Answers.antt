use Rattle.std.proofs.Common.{◌≡◌, ◌+◌, ◌∷◌, ℕ, suc, List, get_or, drop, ap, sym, subst, ◌∙◌, arith}
use Rattle.std.proofs.Math.Seq.{drop-cons}
use Rattle.std.proofs.lemmas.List.{drop_all}
use Rattle.broker_lines.specs.declared.statements.Statement.{Statement}
use Rattle.broker_points.proofs.Leading.{lines_end, lines_more, LinesLead}
use Rattle.broker_points.proofs.point.follow_all.Goals as goal

pub loop-statement-preserved : goal.loop-statement-preserved
loop-statement-preserved c =
    let i = c.loop-statement.statement-index in
    let all = c.args.statements.now in
    let next : suc i ≡ i + 1 = omega arith in
    let split : drop i all ≡ c.statement-item.result ∷ drop (i + 1) all =
    drop-cons all i c.statement-item.result c.loop-statement-test.true
    ∙ ap (λ (n : ℕ). get_or all i c.statement-item.result ∷ drop n all) next
    ∙ ap (λ (s : Statement). s ∷ drop (i + 1) all) (sym c.statement-item.is) in
    let leads : LinesLead c.args.player.now all c.loop-statement.player (c.statement-item.result ∷ drop (i + 1) all) =
    subst (λ (l : List Statement). LinesLead c.args.player.now all c.loop-statement.player l) split c.loop-statement.invariant.leads in
    record {
      leads = lines_more c.args.player.now c.loop-statement.player c.follow.new.player all (drop (i + 1) all) c.statement-item.result c.in_ok-follow.ensures.leads leads;
      known = c.in_ok-follow.ensures.known;
    }

pub returns-clause-leads : goal.returns-clause-leads
returns-clause-leads c =
    let i = c.loop-statement.statement-index in
    let all = c.args.statements.now in
    lines_end c.args.player.now c.loop-statement.player all
    (subst (λ (l : List Statement). LinesLead c.args.player.now all c.loop-statement.player l)
    (drop_all i all c.loop-statement-test.false) c.loop-statement.invariant.leads)
