use Rattle.std.proofs.Common.{◌≡◌, false, true, ℕ, suc, ◌+◌, ◌-◌, ◌++◌, ap, ◌∙◌, arith}
use Rattle.std.specs.Prelude.{Ok}
use Rattle.interleave.specs.State.{recover_result}
use Rattle.playing.specs.Play.{Play, play_after_recovery_step, after_recovery}
use Rattle.playing.specs.Transcript.{recovery_lines}
use Rattle.playing.proofs.Recoveries.{leads_on, gives_on}
use Rattle.playing.proofs.player.Player.recover_by.Goals as goal

pub loop-preserved : goal.loop-preserved
loop-preserved c =
    let play : Play = c.loop.self in
    let next : Play = c.recover_step.new.self in
    let rest : ℕ = c.args.most - (c.loop.counter + 1) in
    let left : suc rest ≡ c.args.most - c.loop.counter = omega arith in
    let is : c.recover_step.result ≡ Ok false = c.in_ok-recover_step.was ∙ ap Ok c.if-branch.false in
    let going : recover_result false play.world ≡ Ok false = (c.recover_step.ensures.going is).goes_on in
    let same : next ≡ play_after_recovery_step play = (c.recover_step.ensures.going is).next in
    record {
      leads = leads_on rest play next going same ∙ ap (λ n. after_recovery n play) left ∙ c.loop.invariant.leads;
      gives =
          ap (λ ls. ls ++ recovery_lines rest next) ((c.recover_step.ensures.going is).same_lines)
          ∙ ap (λ ls. c.loop.lines.items ++ ls)
          (gives_on rest play next going same ∙ ap (λ n. recovery_lines n play) left)
          ∙ c.loop.invariant.gives;
    }

pub returns-then-branch-clause-play : goal.returns-then-branch-clause-play
returns-then-branch-clause-play c =
    let rest : ℕ = c.args.most - (c.loop.counter + 1) in
    let left : suc rest ≡ c.args.most - c.loop.counter = omega arith in
    let is : c.recover_step.result ≡ Ok true = c.in_ok-recover_step.was ∙ ap Ok c.if-branch.true in
    c.recover_step.ensures.play is rest ∙ ap (λ n. after_recovery n c.loop.self) left ∙ c.loop.invariant.leads

pub returns-then-branch-clause-lines : goal.returns-then-branch-clause-lines
returns-then-branch-clause-lines c =
    let rest : ℕ = c.args.most - (c.loop.counter + 1) in
    let left : suc rest ≡ c.args.most - c.loop.counter = omega arith in
    let is : c.recover_step.result ≡ Ok true = c.in_ok-recover_step.was ∙ ap Ok c.if-branch.true in
    c.recover_step.ensures.lines is rest
    ∙ ap (λ n. c.loop.lines.items ++ recovery_lines n c.loop.self) left ∙ c.loop.invariant.gives
