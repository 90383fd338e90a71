use Rattle.std.proofs.Common.{◌≡◌, ◌-◌, ◌+◌, ◌<◌, ◌∷◌, ℕ, suc, List, ap, subst, replicate, true, false, arith}
use Rattle.std.specs.Prelude.{Bool}
use Rattle.broker_lines.specs.declared.statements.Statement.{Statement}
use Rattle.broker_script.specs.Play.{Played}
use Rattle.broker_points.specs.Acts.{IsAttempted}
use Rattle.broker_points.proofs.Making.{attempts_start, attempts_more, attempts_refused, attempts_end, AttemptsLead}
use Rattle.broker_points.proofs.acts.repeat.Goals as goal

-- one of them, and those that are left after it
split : (most done : ℕ) (old now : Played) (all before so_far : List Statement) (act : Statement) → done < most
    → AttemptsLead old all before now (replicate (most - done) act) so_far
    → AttemptsLead old all before now (act ∷ replicate (most - (done + 1)) act) so_far
split most done old now all before so_far act few leads =
    subst (λ (l : List Statement). AttemptsLead old all before now l so_far)
    (ap (λ n. replicate n act) (let e : most - done ≡ suc (most - (done + 1)) = omega (arith, few) in e)) leads

answered : (old new : Played) (act : Statement) (b c : Bool) → b ≡ c → IsAttempted old act b new → IsAttempted old act c new
answered old new act b c is attempt = subst (λ (x : Bool). IsAttempted old act x new) is attempt

pub loop-init : goal.loop-init
loop-init c =
    let all : c.args.most ≡ c.args.most - 0 = omega arith in
    subst (λ n. AttemptsLead c.args.player.now (replicate c.args.most c.args.act.now) c.args.acts.now.items c.args.player.now
    (replicate n c.args.act.now) c.args.acts.now.items) all
    (attempts_start c.args.player.now (replicate c.args.most c.args.act.now) c.args.acts.now.items)

pub loop-preserved : goal.loop-preserved
loop-preserved c =
    let act = c.args.act.now in
    let all = replicate c.args.most act in
    attempts_more c.args.player.now all c.args.acts.now.items c.loop.player c.attempt.new.player act
    (replicate (c.args.most - (c.loop.counter + 1)) act) c.loop.acts.items c.add.new.acts.items c.in_ok-add.ensures.acts
    (answered c.loop.player c.attempt.new.player act c.in_ok-accepted.accepted true c.if-not-accepted.false c.in_ok-accepted.ensures.attempted)
    (split c.args.most c.loop.counter c.args.player.now c.loop.player all c.args.acts.now.items c.loop.acts.items act c.loop-test.true c.loop.invariant)

pub returns-then-not-accepted-clause-acts : goal.returns-then-not-accepted-clause-acts
returns-then-not-accepted-clause-acts c =
    let act = c.args.act.now in
    let all = replicate c.args.most act in
    attempts_refused c.args.player.now all c.args.acts.now.items c.loop.player c.attempt.new.player act
    (replicate (c.args.most - (c.loop.counter + 1)) act) c.loop.acts.items
    (answered c.loop.player c.attempt.new.player act c.in_ok-accepted.accepted false c.if-not-accepted.true c.in_ok-accepted.ensures.attempted)
    (split c.args.most c.loop.counter c.args.player.now c.loop.player all c.args.acts.now.items c.loop.acts.items act c.loop-test.true c.loop.invariant)

pub returns-clause-acts : goal.returns-clause-acts
returns-clause-acts c =
    let act = c.args.act.now in
    let all = replicate c.args.most act in
    let out : c.args.most - c.loop.counter ≡ 0 = omega (arith, c.loop-test.false) in
    attempts_end c.args.player.now all c.args.acts.now.items c.loop.player c.loop.acts.items
    (subst (λ n. AttemptsLead c.args.player.now all c.args.acts.now.items c.loop.player (replicate n act) c.loop.acts.items) out c.loop.invariant)
