use Rattle.std.proofs.Common.{◌≡◌, ◌+◌, ◌-◌, ℕ, suc, false, true, replicate, sym, ap, ◌∙◌, arith}
use Rattle.interleave.specs.State.{State, after_act, after_acts, is_accepted, taken_of, count_of}
use Rattle.explore.proofs.InOrder.{stays, none_taken}
use Rattle.explore.proofs.attempts.repeat.Goals as goal

pub returns-then-not-branch-clause-world : goal.returns-then-not-branch-clause-world
returns-then-not-branch-clause-world c =
    let w : State = c.loop-taken.world.now in
    let refused : is_accepted w c.args.act.now ≡ false = sym c.in_ok-attempt.ensures.accepted ∙ c.if-not-branch.true in
    c.in_ok-attempt.ensures.world ∙ c.requires w refused
    ∙ sym (stays (c.args.most - c.loop-taken.taken) w c.args.act.now c.requires refused) ∙ c.loop-taken.invariant.leads

pub returns-then-not-branch-clause-accepted : goal.returns-then-not-branch-clause-accepted
returns-then-not-branch-clause-accepted c =
    let w : State = c.loop-taken.world.now in
    let refused : is_accepted w c.args.act.now ≡ false = sym c.in_ok-attempt.ensures.accepted ∙ c.if-not-branch.true in
    let none = none_taken (c.args.most - c.loop-taken.taken) w c.args.act.now c.requires refused in
    omega (arith, none, c.loop-taken.invariant.counts)

pub loop-taken-preserved : goal.loop-taken-preserved
loop-taken-preserved c =
    let w : State = c.loop-taken.world.now in
    let rest : ℕ = c.args.most - (c.loop-taken.taken + 1) in
    let left : c.args.most - c.loop-taken.taken ≡ suc rest = omega (arith, c.loop-taken-test.true) in
    let taken : is_accepted w c.args.act.now ≡ true = sym c.in_ok-attempt.ensures.accepted ∙ c.if-not-branch.false in
    let world : c.attempt.new.world.now ≡ after_act w c.args.act.now = c.in_ok-attempt.ensures.world in
    let one : count_of (is_accepted w c.args.act.now) ≡ 1 = ap count_of taken in
    let all : taken_of w (replicate (c.args.most - c.loop-taken.taken) c.args.act.now)
    ≡ count_of (is_accepted w c.args.act.now) + taken_of (after_act w c.args.act.now) (replicate rest c.args.act.now) =
    ap (λ n. taken_of w (replicate n c.args.act.now)) left in
    let same : taken_of c.attempt.new.world.now (replicate rest c.args.act.now)
    ≡ taken_of (after_act w c.args.act.now) (replicate rest c.args.act.now) =
    ap (λ v. taken_of v (replicate rest c.args.act.now)) world in
    record {
      leads =
          ap (λ v. after_acts v (replicate rest c.args.act.now)) world
          ∙ ap (λ n. after_acts w (replicate n c.args.act.now)) (sym left) ∙ c.loop-taken.invariant.leads;
      counts = omega (arith, one, all, same, c.loop-taken.invariant.counts);
    }
