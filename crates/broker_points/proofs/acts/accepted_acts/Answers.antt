use Rattle.std.proofs.Common.{◌≡◌, ◌+◌, ◌∷◌, ℕ, suc, List, get_or, drop, ap, sym, subst, ◌∙◌, arith}
use Rattle.std.proofs.Math.Seq.{drop-cons}
use Rattle.std.proofs.lemmas.List.{drop_all}
use Rattle.broker_lines.specs.declared.statements.Statement.{Statement}
use Rattle.broker_points.proofs.Making.{acts_more, acts_end, ActsLead}
use Rattle.broker_points.proofs.acts.accepted_acts.Goals as goal

pub loop-statement-preserved : goal.loop-statement-preserved
loop-statement-preserved c =
    let i = c.loop-statement.statement-index in
    let all = c.args.statements.now in
    let next : suc i ≡ i + 1 = omega arith in
    let split : drop i all ≡ c.statement-item.result ∷ drop (i + 1) all =
    drop-cons all i c.statement-item.result c.loop-statement-test.true
    ∙ ap (λ (n : ℕ). get_or all i c.statement-item.result ∷ drop n all) next
    ∙ ap (λ (s : Statement). s ∷ drop (i + 1) all) (sym c.statement-item.is) in
    let leads : ActsLead c.args.player all c.loop-statement.player (c.statement-item.result ∷ drop (i + 1) all) c.loop-statement.acts.items =
    subst (λ (l : List Statement). ActsLead c.args.player all c.loop-statement.player l c.loop-statement.acts.items) split c.loop-statement.invariant in
    acts_more c.args.player c.loop-statement.player c.follow.new.player all (drop (i + 1) all) c.statement-item.result
    c.loop-statement.acts.items c.follow.new.acts.items c.in_ok-follow.ensures.acts leads

pub returns-clause-acts : goal.returns-clause-acts
returns-clause-acts c =
    let i = c.loop-statement.statement-index in
    let all = c.args.statements.now in
    acts_end c.args.player c.loop-statement.player all c.loop-statement.acts.items
    (subst (λ (l : List Statement). ActsLead c.args.player all c.loop-statement.player l c.loop-statement.acts.items)
    (drop_all i all c.loop-statement-test.false) c.loop-statement.invariant)
