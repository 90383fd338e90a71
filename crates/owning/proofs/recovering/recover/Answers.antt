use Rattle.std.proofs.Common.{rules, ◌≡◌, true, false, Err, Result, sym, subst}
use Rattle.words.specs.declared.refusal.Refusal.{Refusal}
use Rattle.owning.specs.Recovering.{IsRecovery}
use Rattle.owning.proofs.Going.{goes_further, goes_right, stays_right}
use Rattle.owning.proofs.Recoveries.{comes_further, comes_nowhere, is_ready, is_refused}
use Rattle.owning.proofs.recovering.recover.Goals as goal

pub loop-init : goal.loop-init
loop-init c = record {
  come = comes_nowhere c.args.session.now;
  on = stays_right c.args.session.now c.requires.promises;
}

pub returns-in_err-recover_step-clause-made : goal.returns-in_err-recover_step-clause-made
returns-in_err-recover_step-clause-made c =
    let now = c.in_err-recover_step in
    let answer : c.from_residual.result ≡ Err now.field-0.0 = search rules in
    subst (λ (r : Result Unit Refusal). IsRecovery c.args.session.now c.recover_step.new.self r) (sym answer)
    (is_refused c.args.session.now c.loop.session c.recover_step.new.self now.field-0.0
    c.loop.invariant.on.promises.broker.well c.loop.invariant.come now.ensures.step now.ensures.kept)

pub returns-in_err-recover_step-clause-goes_on : goal.returns-in_err-recover_step-clause-goes_on
returns-in_err-recover_step-clause-goes_on c =
    let e = c.recover_step.ensures in
    goes_further c.args.session.now c.loop.session c.recover_step.new.self c.loop.invariant.on
    (goes_right c.loop.session c.recover_step.new.self e.goes_on e.downtime.goes_on e.promises)

pub loop-preserved : goal.loop-preserved
loop-preserved c =
    let now = c.in_ok-recover_step in
    let e = c.recover_step.ensures in
    let going : now.field-0 ≡ false = search rules in
    record {
      come =
          comes_further c.args.session.now c.loop.session c.recover_step.new.self now.field-0 going
          c.loop.invariant.come now.ensures.step now.ensures.kept;
      on =
          goes_further c.args.session.now c.loop.session c.recover_step.new.self c.loop.invariant.on
          (goes_right c.loop.session c.recover_step.new.self e.goes_on e.downtime.goes_on e.promises);
    }

pub returns-clause-made : goal.returns-clause-made
returns-clause-made c =
    let now = c.in_ok-recover_step in
    let over : now.field-0 ≡ true = search rules in
    is_ready c.args.session.now c.loop.session c.recover_step.new.self now.field-0 over c.loop.invariant.come
    now.ensures.step now.ensures.kept

pub returns-clause-goes_on : goal.returns-clause-goes_on
returns-clause-goes_on c =
    let e = c.recover_step.ensures in
    goes_further c.args.session.now c.loop.session c.recover_step.new.self c.loop.invariant.on
    (goes_right c.loop.session c.recover_step.new.self e.goes_on e.downtime.goes_on e.promises)
