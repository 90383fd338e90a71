use Rattle.std.proofs.Common.{◌≡◌, ◌-◌, subst, arith, true, false, refl}
use Rattle.std.proofs.lemmas.Result.{IfOk-weaker}
use Rattle.std.specs.Prelude.{Bool, Ok, nat_lt}
use Rattle.broker_script.specs.Recovering.{IsRecoveredOn}
use Rattle.broker_script.proofs.Going.{made, steps_start, steps_more, steps_ready, steps_refused, steps_out}
use Rattle.broker_script.proofs.PutOffs.{half, none_made, refused_first}
use Rattle.broker_script.proofs.player.Player.recover_by.Goals as goal

pub loop-made-init : goal.loop-made-init
loop-made-init c = record { leads = steps_start c.args.most c.args.self.now; first = λ e. refl }

pub returns-in-Err-clause-recovers : goal.returns-in-Err-clause-recovers
returns-in-Err-clause-recovers c =
    IfOk-weaker c.refused.result _ _ (λ lines told.
    steps_refused c.args.most c.loop-made.made c.args.self.now c.loop-made.self c.recover_step.new.self c.in-Err.refusal lines.items
    c.loop-made-test.true (c.in-Err.ensures.step (λ e. told.0 (cc))) told.1 c.loop-made.invariant.leads) c.refused.ensures.line

pub returns-in-Err-clause-put_off : goal.returns-in-Err-clause-put_off
returns-in-Err-clause-put_off c =
    refused_first c.refused.result c.args.self.now c.loop-made.self c.recover_step.new.self c.in-Err.refusal (nat_lt 0 c.loop-made.made)
    c.refused.ensures.memory c.refused.ensures.begun
    (λ e. c.loop-made.invariant.first (none_made c.loop-made.made e))
    (λ e. c.in-Err.ensures.put_off (cc))

pub returns-in-Ok-true-clause-recovers : goal.returns-in-Ok-true-clause-recovers
returns-in-Ok-true-clause-recovers c =
    let step : IsRecoveredOn c.loop-made.self (Ok true) c.recover_step.new.self =
    subst (λ (b : Bool). IsRecoveredOn c.loop-made.self (Ok b) c.recover_step.new.self) c.in-Ok-true.field-0-test (c.in-Ok-true.ensures.step (made _)) in
    IfOk-weaker c.show_ready.result _ _ (λ lines is.
    steps_ready c.args.most c.loop-made.made c.args.self.now c.loop-made.self c.recover_step.new.self lines.items
    c.loop-made-test.true step is c.loop-made.invariant.leads) c.show_ready.ensures.lines

pub returns-in-Ok-true-clause-put_off : goal.returns-in-Ok-true-clause-put_off
returns-in-Ok-true-clause-put_off c = half c.show_ready.result c.args.self.now c.recover_step.new.self c.show_ready.ensures.errors

pub loop-made-preserved : goal.loop-made-preserved
loop-made-preserved c =
    let step : IsRecoveredOn c.loop-made.self (Ok false) c.recover_step.new.self =
    subst (λ (b : Bool). IsRecoveredOn c.loop-made.self (Ok b) c.recover_step.new.self) c.in-Ok-false.field-0-test (c.in-Ok-false.ensures.step (made _)) in
    record {
      leads = steps_more c.args.most c.loop-made.made c.args.self.now c.loop-made.self c.recover_step.new.self c.loop-made-test.true step c.loop-made.invariant.leads;
      first = λ e. absurd (omega (arith, e));
    }

pub returns-clause-recovers : goal.returns-clause-recovers
returns-clause-recovers c =
    let out : c.args.most - c.loop-made.made ≡ 0 = omega arith in
    steps_out c.args.most c.loop-made.made c.args.self.now c.loop-made.self c.fill.result.items out c.fill.ensures c.loop-made.invariant.leads
