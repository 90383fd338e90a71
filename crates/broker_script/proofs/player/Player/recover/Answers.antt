use Rattle.std.proofs.Common.{refl, sym, subst, true, false}
use Rattle.std.proofs.lemmas.Bool.{false≢true}
use Rattle.std.proofs.lemmas.Result.{IfOk-weaker}
use Rattle.std.specs.Prelude.{Bool, Ok}
use Rattle.broker_script.specs.Recovering.{IsRecoveredOn}
use Rattle.broker_script.proofs.Going.{made, recovery_starts, recovery_more, recovery_ready, recovery_refused}
use Rattle.broker_script.proofs.PutOffs.{half, refused_first}
use Rattle.broker_script.proofs.player.Player.recover.Goals as goal

pub loop-refusal-init : goal.loop-refusal-init
loop-refusal-init c = record { leads = recovery_starts c.args.self.now; first = λ e. refl }

pub returns-in-Err-clause-recovers : goal.returns-in-Err-clause-recovers
returns-in-Err-clause-recovers c =
    IfOk-weaker c.refused.result _ _ (λ lines told.
    recovery_refused c.args.self.now c.loop-refusal.self c.recover_step.new.self c.in-Err.refusal lines.items
    (c.in-Err.ensures.step (λ e. told.0 (cc))) told.1 c.loop-refusal.invariant.leads) c.refused.ensures.line

pub returns-in-Ok-true-clause-recovers : goal.returns-in-Ok-true-clause-recovers
returns-in-Ok-true-clause-recovers c =
    let step : IsRecoveredOn c.loop-refusal.self (Ok true) c.recover_step.new.self =
    subst (λ (b : Bool). IsRecoveredOn c.loop-refusal.self (Ok b) c.recover_step.new.self) c.in-Ok-true.field-0-test (c.in-Ok-true.ensures.step (made _)) in
    IfOk-weaker c.show_ready.result _ _ (λ lines is.
    recovery_ready c.args.self.now c.loop-refusal.self c.recover_step.new.self lines.items
    step is c.loop-refusal.invariant.leads) c.show_ready.ensures.lines

pub loop-refusal-preserved : goal.loop-refusal-preserved
loop-refusal-preserved c =
    let step : IsRecoveredOn c.loop-refusal.self (Ok false) c.recover_step.new.self =
    subst (λ (b : Bool). IsRecoveredOn c.loop-refusal.self (Ok b) c.recover_step.new.self) c.in-Ok-false.field-0-test (c.in-Ok-false.ensures.step (made _)) in
    record {
      leads = recovery_more c.args.self.now c.loop-refusal.self c.recover_step.new.self step c.loop-refusal.invariant.leads;
      first = λ e. absurd (false≢true (sym e));
    }

pub returns-in-Err-clause-put_off : goal.returns-in-Err-clause-put_off
returns-in-Err-clause-put_off c =
    refused_first c.refused.result c.args.self.now c.loop-refusal.self c.recover_step.new.self c.in-Err.refusal c.loop-refusal.begun
    c.refused.ensures.memory c.refused.ensures.begun c.loop-refusal.invariant.first (λ e. c.in-Err.ensures.put_off (cc))

pub returns-in-Ok-true-clause-put_off : goal.returns-in-Ok-true-clause-put_off
returns-in-Ok-true-clause-put_off c = half c.show_ready.result c.args.self.now c.recover_step.new.self c.show_ready.ensures.errors
