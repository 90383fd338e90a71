use Rattle.std.proofs.Common.{arith, sym, subst, ◌≤◌, ◌+◌, ℕ, Bool, Result}
use Rattle.std.specs.Prelude.{IsSome, OnOk}
use Rattle.words.specs.declared.refusal.Refusal.{Refusal}
use Rattle.named.specs.Stopping.{IsRecoveryStep}
use Rattle.workers.specs.Following.{Held}
use Rattle.workers.specs.Renewing.{HasRoomToRecover}
use Rattle.workers.specs.Noting.{HasPromised, promised_in, to_create}
use Rattle.workers.proofs.guard.Notes.{booked_spent, created_recovered, promised_less}
use Rattle.workers.proofs.guard.Guarded.{guarded_still, known_after_recovery, recovery_errors}
use Rattle.workers.proofs.brokers.Readiness.{down_before, ready_after}
use Rattle.workers.proofs.guard.Room.{never_full, only_ready, room_after}
use Rattle.workers.proofs.histories.Stops.{recovered_carried}
use Rattle.workers.proofs.locked.Locked.recover_promised.Goals as goal

few_more : {few many : ℕ} → few ≤ many → few + 1 ≤ many + 1
few_more less = omega (arith, less)

pub invariant_of-self : goal.invariant_of-self
invariant_of-self g c =
    let e = c.recover_step_noted-act.ensures in
    let old = c.self.inside.session in
    let new = c.recover_step_noted-act.new.self in
    let well = c.self.invariant.1 in (
      c.self.invariant.0,
      guarded_still g.J.Naming.clients g.J.Naming.first _ well new c.self.inside.creating
          (λ u. recovered_carried old new well.promises c.noted.result (subst (λ (r : Result Bool Refusal). IsRecoveryStep c.self.inside.session.broker c.recover_step_noted-act.new.self.broker r c.self.inside.session.broker.recovery)
          (sym c.noted.ensures.answer) c.recover_step_noted-act.ensures.step) u) e.promises
          (record { numbers = e.goes_on; queues = e.downtime.goes_on })
          (known_after_recovery old.broker new.broker c.noted.result c.self.inside.creating (subst (λ (r : Result Bool Refusal). IsRecoveryStep c.self.inside.session.broker c.recover_step_noted-act.new.self.broker r c.self.inside.session.broker.recovery)
          (sym c.noted.ensures.answer) c.recover_step_noted-act.ensures.step) well.creation),
      c.self.invariant.2,
      booked_spent g.J.Naming.roll.changes g.J.Naming.first.broker.words.kept old.broker new.broker c.self.inside.creating
          c.self.inside.creating c.self.inside.book c.noted.new.book c.self.invariant.3 (c.noted.ensures.on _ _ e.noted)
          c.noted.ensures.less
          (promised_less (to_create c.self.inside.creating new.broker.creation + 1)
          (to_create c.self.inside.creating old.broker.creation + 1) (promised_in c.self.inside.book)
          (few_more (created_recovered old.broker new.broker c.noted.result c.self.inside.creating (subst (λ (r : Result Bool Refusal). IsRecoveryStep c.self.inside.session.broker c.recover_step_noted-act.new.self.broker r c.self.inside.session.broker.recovery)
          (sym c.noted.ensures.answer) c.recover_step_noted-act.ensures.step) well.creation))
          (subst (λ (x : Held). HasPromised (to_create x.creating x.session.broker.creation + 1) x.promised) (sym c.self.view_is)
          c.requires.promised)),
    )

pub returns-clause-errors : goal.returns-clause-errors
returns-clause-errors g c =
    recovery_errors c.self.inside.session.broker c.recover_step_noted-act.new.self.broker c.noted.result
    c.self.invariant.1.promises.broker.well (subst (λ (r : Result Bool Refusal). IsRecoveryStep c.self.inside.session.broker c.recover_step_noted-act.new.self.broker r c.self.inside.session.broker.recovery)
    (sym c.noted.ensures.answer) c.recover_step_noted-act.ensures.step)

pub returns-clause-room : goal.returns-clause-room
returns-clause-room g c = λ has.
    room_after c.self.inside.session.broker c.recover_step_noted-act.new.self.broker c.noted.result
    c.self.invariant.1.promises.broker.well
    (subst (λ (x : Held). HasRoomToRecover x.session.broker) (sym c.self.view_is) has) (subst (λ (r : Result Bool Refusal). IsRecoveryStep c.self.inside.session.broker c.recover_step_noted-act.new.self.broker r c.self.inside.session.broker.recovery)
    (sym c.noted.ensures.answer) c.recover_step_noted-act.ensures.step)

pub returns-clause-never_full : goal.returns-clause-never_full
returns-clause-never_full g c = λ has.
    let old = c.self.inside.session.broker in
    let new = c.recover_step_noted-act.new.self.broker in
    let well = c.self.invariant.1.promises.broker.well in
    let step = (subst (λ (r : Result Bool Refusal). IsRecoveryStep c.self.inside.session.broker c.recover_step_noted-act.new.self.broker r c.self.inside.session.broker.recovery)
    (sym c.noted.ensures.answer) c.recover_step_noted-act.ensures.step) in
    only_ready c.noted.result (recovery_errors old new c.noted.result well step)
    (never_full old new c.noted.result well
    (subst (λ (x : Held). HasRoomToRecover x.session.broker) (sym c.self.view_is) has) step)

pub returns-clause-down : goal.returns-clause-down
returns-clause-down g c =
    let old = c.self.inside.session.broker in
    let new = c.recover_step_noted-act.new.self.broker in
    subst (λ (v : Held). OnOk c.noted.result (IsSome v.session.broker.recovery)) c.self.view_is
    (down_before old new c.noted.result (subst (λ (r : Result Bool Refusal). IsRecoveryStep old new r old.recovery)
    (sym c.noted.ensures.answer) c.recover_step_noted-act.ensures.step))

pub returns-clause-ready : goal.returns-clause-ready
returns-clause-ready g c = λ over.
    ready_after c.self.inside.session.broker c.recover_step_noted-act.new.self.broker c.noted.result
    c.self.invariant.1.promises.broker.well (subst (λ (r : Result Bool Refusal). IsRecoveryStep c.self.inside.session.broker c.recover_step_noted-act.new.self.broker r c.self.inside.session.broker.recovery)
    (sym c.noted.ensures.answer) c.recover_step_noted-act.ensures.step) over
