use Rattle.std.proofs.Common.{◌≡◌, ◌≤◌, ◌+◌, arith, refl, false, Bool, List, Option, Some, Result, Ok, subst, sym, ap, ◌∙◌}
use Rattle.std.specs.Prelude.{IfSome}
use Rattle.words.specs.declared.refusal.Refusal.{Refusal}
use Rattle.persist.specs.Memory.{Words}
use Rattle.arena.specs.Shape.{Shape}
use Rattle.protocol.specs.declared.UnderWay.{UnderWay}
use Rattle.stepper.specs.Step.{after_one}
use Rattle.recover.specs.Table.{access_of as recovery_access}
use Rattle.recover.specs.declared.recovery.Recovery.{Recovery}
use Rattle.protocol.specs.Machine.{next_recovery, recovery_left, recovery_events}
use Rattle.protocol.proofs.Facts.{recovery_point}
use Rattle.interleave.specs.Core.{CoreState, core_with_room, state_of}
use Rattle.interleave.specs.Holds.{Holds, from_invariant}
use Rattle.interleave.specs.Recoveries.{IsRecoveryStep, MayRecover}
use Rattle.interleave.specs.State.{State, machine, is_ready, queue_at_ready, recover_with, recover_result_with}
use Rattle.interleave.specs.Trace.{state_with}
use Rattle.interleave.specs.declared.queue.Queue.{Queue}
use Rattle.interleave.proofs.machine.Recoveries.{left_by_recovery, recovery_some, of_some}
use Rattle.interleave.proofs.machine.Holding.{recovery_reads, recovery_next, holds_after_recover}
use Rattle.interleave.proofs.machine.Invariants.{room_held}
use Rattle.interleave.proofs.machine.Changes.{act_noted}
use Rattle.interleave.proofs.lent.Core.recover_step_noted.Goals as goal

pub reserve-requires : goal.reserve-requires
reserve-requires g c = room_held c.requires.holds

pub recover_once-requires-clause-may : goal.recover_once-requires-clause-may
recover_once-requires-clause-may g c =
    let w : State = state_of c.args.self.now (g.M.WordMemory.words c.args.memory.now) in
    let may : (r : Recovery) → w.recovery ≡ Some r → MayRecover w.shape w.words r = λ r e. record {
      room = c.requires.holds.safe.words.room;
      point = recovery_point (machine w) (from_invariant _ c.requires.holds.inv) r e;
      read = recovery_reads w r c.requires.holds e;
    } in
    subst (λ (k : CoreState). IfSome k.trace.recovery (λ r. MayRecover k.shape w.words r)) (sym c.reserve.ensures.same)
    (of_some w.recovery (λ r. MayRecover w.shape w.words r) may)

pub returns-clause-by_rule : goal.returns-clause-by_rule
returns-clause-by_rule g c =
    let old : CoreState = c.args.self.now in
    let new : CoreState = c.recover_once.new.self in
    let ws : Words = g.M.WordMemory.words c.args.memory.now in
    let left : Words = g.M.WordMemory.words c.recover_once.new.memory in
    let w : State = state_of old ws in
    let same : c.reserve.new.self ≡ core_with_room old c.reserve.new.self.trace.room = c.reserve.ensures.same in
    let some = recovery_some w.recovery (sym c.is_down.ensures ∙ c.if-not-is_down.false) in
    let r : Recovery = some.0 in
    let e : w.recovery ≡ Some r = some.1 in
    let steps : IsRecoveryStep (core_with_room old c.reserve.new.self.trace.room) ws new left c.recover_once.result = subst (λ (k : CoreState). IsRecoveryStep k ws new left c.recover_once.result) same c.recover_once.ensures.step in
    let step = steps r e in
    let is = recovery_next w r c.requires.holds e in
    let ms : Words = after_one w.shape (recovery_access w.shape.kind r.at) ws in
    let room : old.trace.room ≤ new.trace.room + 1 = omega (arith, c.reserve.ensures.kept, c.recover_once.ensures.room) in
    record {
      leaves =
          ap (λ (s : Shape). state_with s left new.queue new.calls new.trace) (c.recover_once.ensures.shape ∙ ap (λ (k : CoreState). k.shape) same)
          ∙ ap (λ (cs : List (Option UnderWay)). state_with w.shape left new.queue cs new.trace) (c.recover_once.ensures.calls ∙ ap (λ (k : CoreState). k.calls) same)
          ∙ ap (λ (m : Words). state_with w.shape m new.queue old.calls new.trace) step.words
          ∙ ap (λ (q : Queue). state_with w.shape ms q old.calls new.trace) (step.queue ∙ ap (queue_at_ready old.queue) is)
          ∙ left_by_recovery w.shape ws old.queue old.calls old.trace r (next_recovery (machine w) r) new.trace refl
          (c.recover_once.ensures.base ∙ ap (λ (k : CoreState). k.trace.base) same) (c.recover_once.ensures.told ∙ ap (λ (k : CoreState). k.trace.told) same)
          (step.events ∙ ap (recovery_events old.trace.log.events) is)
          (c.recover_once.ensures.issued ∙ ap (λ (k : CoreState). k.trace.log.issued) same) (c.recover_once.ensures.effects ∙ ap (λ (k : CoreState). k.trace.log.effects) same)
          (step.recovery ∙ ap recovery_left is)
          ∙ ap (recover_with false w) (sym e);
      answers = ap (λ (b : Bool). let x : Result Bool Refusal = Ok b in x) (step.answer ∙ ap is_ready is) ∙ ap (recover_result_with false w) (sym e);
      full = λ full. absurd (cc (full));
      room = room;
      spare = tt;
    }

pub returns-clause-holds : goal.returns-clause-holds
returns-clause-holds g c =
    let old : State = state_of c.args.self.now (g.M.WordMemory.words c.args.memory.now) in
    subst Holds (sym (returns-clause-by_rule g c).leaves) (holds_after_recover false old c.requires.holds)

pub returns-clause-noted : goal.returns-clause-noted
returns-clause-noted g c =
    let some = recovery_some c.args.self.now.trace.recovery (sym c.is_down.ensures ∙ c.if-not-is_down.false) in
    let still : c.reserve.new.self.trace.recovery ≡ Some some.0 = ap (λ (k : CoreState). k.trace.recovery) c.reserve.ensures.same ∙ some.1 in
    let step = c.recover_once.ensures.step some.0 still in
    act_noted _ _ (g.M.WordMemory.words c.args.memory.now) _ _ c.requires.holds.safe.words.same step.words step.change
