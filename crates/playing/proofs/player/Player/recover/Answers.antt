use Rattle.std.proofs.Common.{◌≡◌, ◌⊎◌, inl, inr, refl, false, true, ℕ, suc, ◌<◌, ◌≤◌, ◌-◌, ◌++◌, ap, ◌∙◌, arith}
use Rattle.std.specs.Prelude.{Ok}
use Rattle.interleave.specs.State.{State, recover_result, steps_to_ready}
use Rattle.playing.specs.Play.{Play, play_after_recovery_step, after_recovery, most_recovery}
use Rattle.playing.specs.Transcript.{recovery_lines}
use Rattle.playing.proofs.Recoveries.{leads_on, gives_on, some_most}
use Rattle.playing.proofs.player.Player.recover.Goals as goal

-- some step is left
some_left : (w : State) (left : ℕ)
    → (left ≡ most_recovery w) ⊎ ((0 < steps_to_ready w) × (steps_to_ready w ≤ left)) → 0 < left
some_left w left (inl all) = omega (arith, all, some_most w)
some_left w left (inr more) = omega (arith, more.0, more.1)

pub loop-init : goal.loop-init
loop-init c =
    record { left = most_recovery c.args.self.now.world; enough = inl refl; leads = refl; gives = refl }

pub loop-smaller : goal.loop-smaller
loop-smaller c = (c.recover_step.ensures.going (c.in_ok-recover_step.was ∙ ap Ok c.if-not-branch.true)).falls

pub loop-preserved : goal.loop-preserved
loop-preserved c =
    let play : Play = c.loop.self in
    let next : Play = c.recover_step.new.self in
    let is : c.recover_step.result ≡ Ok false = c.in_ok-recover_step.was ∙ ap Ok c.if-not-branch.true in
    let going : recover_result false play.world ≡ Ok false = (c.recover_step.ensures.going is).goes_on in
    let same : next ≡ play_after_recovery_step play = (c.recover_step.ensures.going is).next in
    let few : steps_to_ready play.world ≤ most_recovery play.world = (c.recover_step.ensures.going is).few in
    let falls : steps_to_ready next.world < steps_to_ready play.world = (c.recover_step.ensures.going is).falls in
    let more : 0 < steps_to_ready next.world = (c.recover_step.ensures.going is).needs in
    let enough : steps_to_ready play.world ≤ c.loop.invariant.left =
    elim c.loop.invariant.enough [ inl all ↦ omega arith | inr some ↦ some.1 ] in
    let rest : ℕ = c.loop.invariant.left - 1 in
    let left : suc rest ≡ c.loop.invariant.left = omega arith in
    record {
      left = rest;
      enough = inr (more, omega arith);
      leads = leads_on rest play next going same ∙ ap (λ n. after_recovery n play) left ∙ c.loop.invariant.leads;
      gives =
          ap (λ ls. ls ++ recovery_lines rest next) ((c.recover_step.ensures.going is).same_lines)
          ∙ ap (λ ls. c.loop.lines.items ++ ls)
          (gives_on rest play next going same ∙ ap (λ n. recovery_lines n play) left)
          ∙ c.loop.invariant.gives;
    }

pub returns-clause-play : goal.returns-clause-play
returns-clause-play c =
    let play : Play = c.loop.self in
    let some : 0 < c.loop.invariant.left = some_left play.world c.loop.invariant.left c.loop.invariant.enough in
    let rest : ℕ = c.loop.invariant.left - 1 in
    let left : suc rest ≡ c.loop.invariant.left = omega (arith, some) in
    let is : c.recover_step.result ≡ Ok true = c.in_ok-recover_step.was ∙ ap Ok c.if-not-branch.false in
    c.recover_step.ensures.play is rest ∙ ap (λ n. after_recovery n play) left ∙ c.loop.invariant.leads

pub returns-clause-lines : goal.returns-clause-lines
returns-clause-lines c =
    let play : Play = c.loop.self in
    let some : 0 < c.loop.invariant.left = some_left play.world c.loop.invariant.left c.loop.invariant.enough in
    let rest : ℕ = c.loop.invariant.left - 1 in
    let left : suc rest ≡ c.loop.invariant.left = omega (arith, some) in
    let is : c.recover_step.result ≡ Ok true = c.in_ok-recover_step.was ∙ ap Ok c.if-not-branch.false in
    c.recover_step.ensures.lines is rest
    ∙ ap (λ n. c.loop.lines.items ++ recovery_lines n play) left ∙ c.loop.invariant.gives
