use Rattle.std.proofs.Common.{◌≡◌, replicate, subst, true, false}
use Rattle.std.proofs.lemmas.Result.{on_ok_weaker}
use Rattle.std.specs.Prelude.{Bool}
use Rattle.broker_lines.specs.declared.statements.Statement.{Statement}
use Rattle.broker_script.specs.Play.{Played}
use Rattle.broker_points.specs.Acts.{IsAttempted}
use Rattle.broker_points.proofs.Making.{first_refused, first_then}
use Rattle.broker_points.proofs.acts.begin.Goals as goal

answered : (old new : Played) (act : Statement) (b c : Bool) → b ≡ c → IsAttempted old act b new → IsAttempted old act c new
answered old new act b c is attempt = subst (λ (x : Bool). IsAttempted old act x new) is attempt

pub returns-then-not-accepted-clause-acts : goal.returns-then-not-accepted-clause-acts
returns-then-not-accepted-clause-acts c =
    let act : Statement = c.args.first.now in
    first_refused c.args.player.now c.attempt.new.player act (replicate c.args.most c.args.step.now) c.args.acts.now.items
    (answered c.args.player.now c.attempt.new.player act c.in_ok-accepted.accepted false c.if-not-accepted.true c.in_ok-accepted.ensures.attempted)

pub returns-clause-acts : goal.returns-clause-acts
returns-clause-acts c =
    let act : Statement = c.args.first.now in
    on_ok_weaker c.repeat.result (λ adds.
    first_then c.args.player.now c.attempt.new.player c.repeat.new.player act (replicate c.args.most c.args.step.now)
    c.args.acts.now.items c.add.new.acts.items c.repeat.new.acts.items c.in_ok-add.ensures.acts
    (answered c.args.player.now c.attempt.new.player act c.in_ok-accepted.accepted true c.if-not-accepted.false c.in_ok-accepted.ensures.attempted) adds) c.repeat.ensures.acts
