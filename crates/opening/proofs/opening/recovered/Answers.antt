use Rattle.std.proofs.Common.{rules, ◌≡◌, true, false, is_some, Option, Err, IfErr, sym, ap, subst, ◌∙◌}
use Rattle.words.specs.declared.refusal.Refusal.{Refusal}
use Rattle.words.specs.declared.refusal.Refusal.TheVariants.{NoMemory}
use Rattle.named.specs.declared.recovery.BrokerRecovery.{BrokerRecovery}
use Rattle.opening.proofs.Recoveries.{IsRecovering, answers_ready, none_left, opened_by, recovering_begins, recovering_goes_on, some_left}
use Rattle.opening.proofs.Refused.{refused_for_memory}
use Rattle.opening.proofs.opening.recovered.Goals as goal

pub loop-broker-init : goal.loop-broker-init
loop-broker-init c = record {
  so_far = recovering_begins c.requires.begun.0 c.args.start c.requires.kept c.requires.begun.1.booted;
  down = ap (λ (r : Option BrokerRecovery). is_some r) c.requires.begun.1.booted.recovery;
}

pub returns-in_err-recover_step-clause-errors : goal.returns-in_err-recover_step-clause-errors
returns-in_err-recover_step-clause-errors c =
    let refused : c.in_err-recover_step.field-0.0 ≡ NoMemory =
    refused_for_memory c.loop-broker.broker c.recover_step.new.self c.in_err-recover_step.field-0.0
    c.loop-broker.invariant.so_far.promises.well c.loop-broker.invariant.down c.in_err-recover_step.ensures.step in
    let answer : c.from_residual.result ≡ Err c.in_err-recover_step.field-0.0 = search rules in
    subst (λ r. IfErr r (λ (e : Refusal). e ≡ NoMemory)) (sym answer) refused

pub loop-broker-preserved : goal.loop-broker-preserved
loop-broker-preserved c =
    let now = c.in_ok-recover_step in
    let going : now.field-0 ≡ false = search rules in
    record {
      so_far =
          recovering_goes_on c.args.start c.loop-broker.broker c.recover_step.new.self now.field-0
          c.loop-broker.invariant.so_far now.ensures.step now.ensures.told now.ensures.promises;
      down =
          some_left c.recover_step.new.self.recovery
          (answers_ready c.loop-broker.broker c.recover_step.new.self now.field-0 now.ensures.step ∙ going);
    }

pub returns-clause-opened : goal.returns-clause-opened
returns-clause-opened c = λ ws begun.
    let now = c.in_ok-recover_step in
    let over : now.field-0 ≡ true = search rules in
    let so_far : IsRecovering c.args.start c.recover_step.new.self =
    recovering_goes_on c.args.start c.loop-broker.broker c.recover_step.new.self now.field-0
    c.loop-broker.invariant.so_far now.ensures.step now.ensures.told now.ensures.promises in
    opened_by ws c.args.start c.recover_step.new.self begun.sound c.requires.kept begun.booted so_far
    (none_left c.recover_step.new.self.recovery
    (answers_ready c.loop-broker.broker c.recover_step.new.self now.field-0 now.ensures.step ∙ over))

pub returns-clause-uncalled : goal.returns-clause-uncalled
returns-clause-uncalled c =
    let now = c.in_ok-recover_step in
    let so_far : IsRecovering c.args.start c.recover_step.new.self =
    recovering_goes_on c.args.start c.loop-broker.broker c.recover_step.new.self now.field-0
    c.loop-broker.invariant.so_far now.ensures.step now.ensures.told now.ensures.promises in
    so_far.uncalled
