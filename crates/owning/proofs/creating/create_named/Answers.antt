use Rattle.std.proofs.Common.{List, ℕ, Ok, ap, subst, ◌∙◌}
use Rattle.owning.proofs.Creations.{IsUnderWay, begins, goes_on, has_less, is_created, is_made}
use Rattle.owning.proofs.Going.{goes_further, goes_right}
use Rattle.owning.proofs.creating.create_named.Goals as goal

pub loop-slot-init : goal.loop-slot-init
loop-slot-init c =
    let e = c.in_ok-create.ensures in
    let old = c.args.session.now in
    let new = c.create.new.self in
    record {
      under =
          subst (λ (name : List ℕ). IsUnderWay old new name c.args.kind) c.as_bytes.ensures.bytes
          (begins old new _ c.args.kind e.may e.begun e.under_way e.others);
      on = goes_right old new e.goes_on e.queues e.promises;
    }

pub returns-in_err-slot-clause-made : goal.returns-in_err-slot-clause-made
returns-in_err-slot-clause-made c =
    let e = c.create_step.ensures in
    absurd (is_made c.args.session.now c.loop-slot.session c.create_step.new.self c.args.name.now c.args.kind _
    c.loop-slot.invariant.under e.step e.others e.kept _ c.in_err-slot.was)

pub returns-in_err-slot-clause-goes_on : goal.returns-in_err-slot-clause-goes_on
returns-in_err-slot-clause-goes_on c =
    let e = c.create_step.ensures in
    absurd (is_made c.args.session.now c.loop-slot.session c.create_step.new.self c.args.name.now c.args.kind _
    c.loop-slot.invariant.under e.step e.others e.kept _ c.in_err-slot.was)

pub returns-in-Some-clause-made : goal.returns-in-Some-clause-made
returns-in-Some-clause-made c =
    let e = c.create_step.ensures in
    is_created c.args.session.now c.loop-slot.session c.create_step.new.self c.args.name.now c.args.kind _
    c.loop-slot.invariant.under e.step e.others e.kept c.in-Some.slot (c.in_ok-slot.was ∙ ap Ok c.in-Some.is)

pub returns-in-Some-clause-goes_on : goal.returns-in-Some-clause-goes_on
returns-in-Some-clause-goes_on c =
    let e = c.create_step.ensures in
    goes_further c.args.session.now c.loop-slot.session c.create_step.new.self c.loop-slot.invariant.on
    (goes_right c.loop-slot.session c.create_step.new.self e.goes_on e.queues e.promises)

pub loop-slot-smaller : goal.loop-slot-smaller
loop-slot-smaller c =
    let e = c.create_step.ensures in
    has_less c.args.session.now c.loop-slot.session c.create_step.new.self c.args.name.now c.args.kind _
    c.loop-slot.invariant.under e.step e.others e.kept (c.in_ok-slot.was ∙ ap Ok c.in_default.is)

pub loop-slot-preserved : goal.loop-slot-preserved
loop-slot-preserved c =
    let e = c.create_step.ensures in
    record {
      under =
          goes_on c.args.session.now c.loop-slot.session c.create_step.new.self c.args.name.now c.args.kind _
          c.loop-slot.invariant.under e.step e.others e.kept (c.in_ok-slot.was ∙ ap Ok c.in_default.is);
      on =
          goes_further c.args.session.now c.loop-slot.session c.create_step.new.self c.loop-slot.invariant.on
          (goes_right c.loop-slot.session c.create_step.new.self e.goes_on e.queues e.promises);
    }
