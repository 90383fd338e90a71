use Rattle.std.proofs.Common.{rules, ℕ, ◌≡◌, ◌∙◌, ◌+◌, ◌<◌, ◌≤◌, Option, Some, None, Ok, Result, Bool, true, false, slice_get, slice_set, sym, ap, subst}
use Rattle.std.specs.Prelude.{IfErr, is_none}
use Rattle.std.proofs.lemmas.Option.{slice_get_read}
use Rattle.words.specs.declared.refusal.Refusal.{Refusal}
use Rattle.persist.specs.Noted.{IsNoted, answer_in}
use Rattle.persist.specs.declared.access.Noted.{Noted}
use Rattle.directory.specs.declared.creation.Creation.{Creation}
use Rattle.named.specs.BrokerView.{broker_view}
use Rattle.named.specs.Brokers.{Brokered, IsWell, is_ready_at, room_at, room_of, with_slot}
use Rattle.named.specs.Stopping.{HasFullQueue, IsNext, IsQueueRecovered, creation_after}
use Rattle.named.specs.declared.recovery.BrokerRecovery.{BrokerRecovery}
use Rattle.named.specs.declared.recovery.BrokerRecovery.TheVariants.{RecoverQueue}
use Rattle.named.specs.declared.slot.Slot.{Slot}
use Rattle.named.specs.Lasting.{left_at, steps_left}
use Rattle.interleave.specs.Calls.{is_no_memory}
use Rattle.named.specs.Slots.{room_in}
use Rattle.named.proofs.acts.Loops.{rooms_after, rooms_kept}
use Rattle.named.proofs.acts.Refused.{answered_so, left, noted_as, nothing}
use Rattle.named.proofs.acts.OneSlot.{others_stay, slot_is_well, slot_now}
use Rattle.named.proofs.downtime.QueueSteps.{HasSpent, falls_ready, falls_yet, full_here, its_slot, ready_by, recovered}
use Rattle.named.proofs.downtime.QueueSteps.{recovering, tells_ready, well_ready, well_recovering}
use Rattle.named.proofs.acts.Requests.{acted_asked, creation_waits, left_asked, slot_asked_here}
use Rattle.named.proofs.promises.Promises.{promises_well}
use Rattle.named.proofs.broker.Broker.recover_queue.Goals as goal

pub recover_step-requires : goal.recover_step-requires
recover_step-requires c =
    let b : Brokered = broker_view c.self.inside in
    let turn : b.recovery ≡ Some (RecoverQueue c.args.slot) = ap (λ (x : Brokered). x.recovery) c.self.view_is ∙ c.requires in
    let was : Slot = c.index_mut.result.now in
    let here : slice_get b.slots c.args.slot.0 ≡ Some was = slice_get_read b.slots 8 c.args.slot.0 was (sym c.self.invariant.well.count) (its_slot b c.self.invariant.well c.args.slot turn) c.index_mut.ensures.value in
    record {
      well = slot_is_well b.counts b.words c.args.slot.0 was (c.self.invariant.well.slots c.args.slot.0 was here);
      asked = slot_asked_here b c.self.inside.memory c.args.slot.0 was c.self.invariant here;
    }

pub invariant_of-self : goal.invariant_of-self
invariant_of-self c =
    let b : Brokered = broker_view c.self.inside in
    let turn : b.recovery ≡ Some (RecoverQueue c.args.slot) = ap (λ (x : Brokered). x.recovery) c.self.view_is ∙ c.requires in
    let was : Slot = c.index_mut.result.now in
    let here : slice_get b.slots c.args.slot.0 ≡ Some was = slice_get_read b.slots 8 c.args.slot.0 was (sym c.self.invariant.well.count) (its_slot b c.self.invariant.well c.args.slot turn) c.index_mut.ensures.value in
    let yet : ready_by (answer_in c.recover_step.result) ≡ false = ap (λ (r : Result (Noted Bool) Refusal). ready_by (answer_in r)) c.in_err-ready.was in
    let e = c.recover_step.ensures in
    let new = c.recover_step.new.memory in
    let below = its_slot b c.self.invariant.well c.args.slot turn in
    record {
      well = well_recovering b c.args.slot was c.recover_step.new.self c.recover_step.new.memory.words c.self.invariant.well here c.recover_step.ensures.well c.recover_step.ensures.outside c.recover_step.ensures.same turn (answer_in c.recover_step.result) c.recover_step.ensures.act.world c.recover_step.ensures.act.answers yet;
      slots = acted_asked b c.self.inside.memory new c.args.slot.0 was c.recover_step.new.self c.self.invariant here below e.beside new.words
          (slot_now b.counts b.words new.words c.args.slot.0 was c.recover_step.new.self (c.self.invariant.well.slots c.args.slot.0 was here) e.well e.same e.outside)
          e.asked (λ k ne. others_stay b c.args.slot.0 was c.recover_step.new.self new.words c.self.invariant.well here e.well e.outside e.same k ne);
      creation = creation_waits b c.self.inside.memory new c.args.slot.0 was c.recover_step.new.self c.self.invariant here below e.beside;
    }

pub returns-in_err-ready-clause-recovered : goal.returns-in_err-ready-clause-recovered
returns-in_err-ready-clause-recovered c =
    let b : Brokered = broker_view c.self.inside in
    let turn : b.recovery ≡ Some (RecoverQueue c.args.slot) = ap (λ (x : Brokered). x.recovery) c.self.view_is ∙ c.requires in
    let was : Slot = c.index_mut.result.now in
    let here : slice_get b.slots c.args.slot.0 ≡ Some was = slice_get_read b.slots 8 c.args.slot.0 was (sym c.self.invariant.well.count) (its_slot b c.self.invariant.well c.args.slot turn) c.index_mut.ensures.value in
    let yet : ready_by (answer_in c.recover_step.result) ≡ false = ap (λ (r : Result (Noted Bool) Refusal). ready_by (answer_in r)) c.in_err-ready.was in
    let now : Brokered = with_slot b c.args.slot.0 c.recover_step.new.self c.recover_step.new.memory.words in
    let answer : answer_in c.recover_step.result ≡ answer_in c.from_residual.result =
    ap (λ (r : Result (Noted Bool) Refusal). answer_in r) c.in_err-ready.was ∙ sym (answered_so c.from_residual.result c.in_err-ready.field-0.0 c.from_residual.ensures) in
    let spent : HasSpent was c.recover_step.new.self (answer_in c.recover_step.result) = record { full = c.recover_step.ensures.act.full; room = c.recover_step.ensures.act.room; spare = c.recover_step.ensures.act.spare; stays = c.recover_step.ensures.stays } in
    let done : IsQueueRecovered b now c.args.slot.0 (answer_in c.recover_step.result) = recovering b c.args.slot was c.recover_step.new.self c.recover_step.new.memory.words c.self.invariant.well here c.recover_step.ensures.well c.recover_step.ensures.outside c.recover_step.ensures.same turn (answer_in c.recover_step.result) c.recover_step.ensures.act.world c.recover_step.ensures.act.answers yet spent in
    subst (λ (x : Brokered). IsQueueRecovered x now c.args.slot.0 (answer_in c.from_residual.result)) c.self.view_is (subst (IsQueueRecovered b now c.args.slot.0) answer done)

pub invariant_of-self-then-not-ready : goal.invariant_of-self-then-not-ready
invariant_of-self-then-not-ready c =
    let b : Brokered = broker_view c.self.inside in
    let turn : b.recovery ≡ Some (RecoverQueue c.args.slot) = ap (λ (x : Brokered). x.recovery) c.self.view_is ∙ c.requires in
    let was : Slot = c.index_mut.result.now in
    let here : slice_get b.slots c.args.slot.0 ≡ Some was = slice_get_read b.slots 8 c.args.slot.0 was (sym c.self.invariant.well.count) (its_slot b c.self.invariant.well c.args.slot turn) c.index_mut.ensures.value in
    let yet : ready_by (answer_in c.recover_step.result) ≡ false = ap (λ (r : Result (Noted Bool) Refusal). ready_by (answer_in r)) c.in_ok-ready.was ∙ c.if-not-ready.true in
    let e = c.recover_step.ensures in
    let new = c.recover_step.new.memory in
    let below = its_slot b c.self.invariant.well c.args.slot turn in
    record {
      well = well_recovering b c.args.slot was c.recover_step.new.self c.recover_step.new.memory.words c.self.invariant.well here c.recover_step.ensures.well c.recover_step.ensures.outside c.recover_step.ensures.same turn (answer_in c.recover_step.result) c.recover_step.ensures.act.world c.recover_step.ensures.act.answers yet;
      slots = acted_asked b c.self.inside.memory new c.args.slot.0 was c.recover_step.new.self c.self.invariant here below e.beside new.words
          (slot_now b.counts b.words new.words c.args.slot.0 was c.recover_step.new.self (c.self.invariant.well.slots c.args.slot.0 was here) e.well e.same e.outside)
          e.asked (λ k ne. others_stay b c.args.slot.0 was c.recover_step.new.self new.words c.self.invariant.well here e.well e.outside e.same k ne);
      creation = creation_waits b c.self.inside.memory new c.args.slot.0 was c.recover_step.new.self c.self.invariant here below e.beside;
    }

pub returns-then-not-ready-clause-recovered : goal.returns-then-not-ready-clause-recovered
returns-then-not-ready-clause-recovered c =
    let b : Brokered = broker_view c.self.inside in
    let turn : b.recovery ≡ Some (RecoverQueue c.args.slot) = ap (λ (x : Brokered). x.recovery) c.self.view_is ∙ c.requires in
    let was : Slot = c.index_mut.result.now in
    let here : slice_get b.slots c.args.slot.0 ≡ Some was = slice_get_read b.slots 8 c.args.slot.0 was (sym c.self.invariant.well.count) (its_slot b c.self.invariant.well c.args.slot turn) c.index_mut.ensures.value in
    let yet : ready_by (answer_in c.recover_step.result) ≡ false = ap (λ (r : Result (Noted Bool) Refusal). ready_by (answer_in r)) c.in_ok-ready.was ∙ c.if-not-ready.true in
    let now : Brokered = with_slot b c.args.slot.0 c.recover_step.new.self c.recover_step.new.memory.words in
    let answer : (answer_in c.recover_step.result) ≡ Ok false = ap (answer_in {T = Bool}) c.in_ok-ready.was ∙ ap (λ (x : Bool). let r : Result Bool Refusal = Ok x in r) c.if-not-ready.true in
    let spent : HasSpent was c.recover_step.new.self (answer_in c.recover_step.result) = record { full = c.recover_step.ensures.act.full; room = c.recover_step.ensures.act.room; spare = c.recover_step.ensures.act.spare; stays = c.recover_step.ensures.stays } in
    let done : IsQueueRecovered b now c.args.slot.0 (answer_in c.recover_step.result) = recovering b c.args.slot was c.recover_step.new.self c.recover_step.new.memory.words c.self.invariant.well here c.recover_step.ensures.well c.recover_step.ensures.outside c.recover_step.ensures.same turn (answer_in c.recover_step.result) c.recover_step.ensures.act.world c.recover_step.ensures.act.answers yet spent in
    subst (λ (x : Brokered). IsQueueRecovered x now c.args.slot.0 (Ok false)) c.self.view_is (subst (IsQueueRecovered b now c.args.slot.0) answer done)

pub invariant_of-self-2 : goal.invariant_of-self-2
invariant_of-self-2 c =
    let b : Brokered = broker_view c.self.inside in
    let turn : b.recovery ≡ Some (RecoverQueue c.args.slot) = ap (λ (x : Brokered). x.recovery) c.self.view_is ∙ c.requires in
    let was : Slot = c.index_mut.result.now in
    let here : slice_get b.slots c.args.slot.0 ≡ Some was = slice_get_read b.slots 8 c.args.slot.0 was (sym c.self.invariant.well.count) (its_slot b c.self.invariant.well c.args.slot turn) c.index_mut.ensures.value in
    let ready : (answer_in c.recover_step.result) ≡ Ok true = ap (answer_in {T = Bool}) c.in_ok-ready.was ∙ ap (λ (x : Bool). let r : Result Bool Refusal = Ok x in r) c.if-not-ready.false in
    let recovery : Option BrokerRecovery = c.recovery_from-self-inside.result in
    let next : IsNext b.directory (c.args.slot.0 + 1) recovery = c.recovery_from-self-inside.ensures in
    let now : Brokered = with_slot b c.args.slot.0 c.recover_step.new.self c.recover_step.new.memory.words in
    let e = c.recover_step.ensures in
    let new = c.recover_step.new.memory in
    let below = its_slot b c.self.invariant.well c.args.slot turn in
    record {
      well = subst (λ (k : Option Creation). let x : Brokered = record now { recovery = recovery; creation = k } in IsWell x) (sym c.creation_left-self-inside.ensures)
          (well_ready b c.args.slot was c.recover_step.new.self c.recover_step.new.memory.words c.self.invariant.well here c.recover_step.ensures.well c.recover_step.ensures.outside c.recover_step.ensures.same turn (answer_in c.recover_step.result) c.recover_step.ensures.act.world c.recover_step.ensures.act.answers ready recovery next);
      slots = acted_asked b c.self.inside.memory new c.args.slot.0 was c.recover_step.new.self c.self.invariant here below e.beside new.words
          (slot_now b.counts b.words new.words c.args.slot.0 was c.recover_step.new.self (c.self.invariant.well.slots c.args.slot.0 was here) e.well e.same e.outside)
          e.asked (λ k ne. others_stay b c.args.slot.0 was c.recover_step.new.self new.words c.self.invariant.well here e.well e.outside e.same k ne);
      creation = left_asked b.counts recovery b.creation c.creation_left-self-inside.result _ c.creation_left-self-inside.ensures;
    }

pub returns-clause-recovered : goal.returns-clause-recovered
returns-clause-recovered c =
    let b : Brokered = broker_view c.self.inside in
    let turn : b.recovery ≡ Some (RecoverQueue c.args.slot) = ap (λ (x : Brokered). x.recovery) c.self.view_is ∙ c.requires in
    let was : Slot = c.index_mut.result.now in
    let here : slice_get b.slots c.args.slot.0 ≡ Some was = slice_get_read b.slots 8 c.args.slot.0 was (sym c.self.invariant.well.count) (its_slot b c.self.invariant.well c.args.slot turn) c.index_mut.ensures.value in
    let ready : (answer_in c.recover_step.result) ≡ Ok true = ap (answer_in {T = Bool}) c.in_ok-ready.was ∙ ap (λ (x : Bool). let r : Result Bool Refusal = Ok x in r) c.if-not-ready.false in
    let recovery : Option BrokerRecovery = c.recovery_from-self-inside.result in
    let next : IsNext b.directory (c.args.slot.0 + 1) recovery = c.recovery_from-self-inside.ensures in
    let now : Brokered = with_slot b c.args.slot.0 c.recover_step.new.self c.recover_step.new.memory.words in
    let answer : Result Bool Refusal = Ok (is_none recovery) in
    let spent : HasSpent was c.recover_step.new.self (answer_in c.recover_step.result) = record { full = c.recover_step.ensures.act.full; room = c.recover_step.ensures.act.room; spare = c.recover_step.ensures.act.spare; stays = c.recover_step.ensures.stays } in
    let done : IsQueueRecovered b (record now { recovery = recovery; creation = creation_after b.creation recovery }) c.args.slot.0 answer = recovered b c.args.slot was c.recover_step.new.self c.recover_step.new.memory.words c.self.invariant.well here c.recover_step.ensures.well c.recover_step.ensures.outside c.recover_step.ensures.same turn (answer_in c.recover_step.result) c.recover_step.ensures.act.world c.recover_step.ensures.act.answers ready recovery next spent in
    let answered : is_none recovery ≡ c.is_none.result = search rules in
    let new : Brokered = record now { recovery = recovery; creation = c.creation_left-self-inside.result } in
    let left : IsQueueRecovered b new c.args.slot.0 answer =
    subst (λ (k : Option Creation). let x : Brokered = record now { recovery = recovery; creation = k } in IsQueueRecovered b x c.args.slot.0 answer) (sym c.creation_left-self-inside.ensures) done in
    subst (λ (x : Brokered). IsQueueRecovered x new c.args.slot.0 (Ok c.is_none.result)) c.self.view_is (subst (λ (x : Bool). IsQueueRecovered b new c.args.slot.0 (Ok x)) answered left)

pub returns-clause-told : goal.returns-clause-told
returns-clause-told c = λ at before now.
    let b : Brokered = broker_view c.self.inside in
    let turn : b.recovery ≡ Some (RecoverQueue c.args.slot) = ap (λ (x : Brokered). x.recovery) c.self.view_is ∙ c.requires in
    let was : Slot = c.index_mut.result.now in
    let here : slice_get b.slots c.args.slot.0 ≡ Some was = slice_get_read b.slots 8 c.args.slot.0 was (sym c.self.invariant.well.count) (its_slot b c.self.invariant.well c.args.slot turn) c.index_mut.ensures.value in
    let ready : (answer_in c.recover_step.result) ≡ Ok true = ap (answer_in {T = Bool}) c.in_ok-ready.was ∙ ap (λ (x : Bool). let r : Result Bool Refusal = Ok x in r) c.if-not-ready.false in
    let recovery : Option BrokerRecovery = c.recovery_from-self-inside.result in
    let next : IsNext b.directory (c.args.slot.0 + 1) recovery = c.recovery_from-self-inside.ensures in
    let was_not : is_ready_at b.recovery at ≡ false = subst (λ (x : Brokered). is_ready_at x.recovery at ≡ false) (sym c.self.view_is) before in
    tells_ready b c.args.slot was c.recover_step.new.self c.recover_step.new.memory.words c.self.invariant.well here c.recover_step.ensures.well c.recover_step.ensures.outside c.recover_step.ensures.same turn (answer_in c.recover_step.result) c.recover_step.ensures.act.world c.recover_step.ensures.act.answers ready recovery next at was_not now

pub returns-then-not-ready-clause-falls : goal.returns-then-not-ready-clause-falls
returns-then-not-ready-clause-falls c =
    let b : Brokered = broker_view c.self.inside in
    let turn : b.recovery ≡ Some (RecoverQueue c.args.slot) = ap (λ (x : Brokered). x.recovery) c.self.view_is ∙ c.requires in
    let was : Slot = c.index_mut.result.now in
    let here : slice_get b.slots c.args.slot.0 ≡ Some was = slice_get_read b.slots 8 c.args.slot.0 was (sym c.self.invariant.well.count) (its_slot b c.self.invariant.well c.args.slot turn) c.index_mut.ensures.value in
    let now : Brokered = with_slot b c.args.slot.0 c.recover_step.new.self c.recover_step.new.memory.words in
    let less : steps_left now < steps_left b = falls_yet b c.args.slot was c.recover_step.new.self c.recover_step.new.memory.words c.self.invariant.well here c.recover_step.ensures.well c.recover_step.ensures.outside c.recover_step.ensures.same turn (answer_in c.recover_step.result) c.recover_step.ensures.act.world c.recover_step.ensures.act.answers c.in_ok-ready.field-0.answer (ap (answer_in {T = Bool}) c.in_ok-ready.was) in
    subst (λ (x : Brokered). steps_left now < steps_left x) c.self.view_is less

pub returns-clause-falls : goal.returns-clause-falls
returns-clause-falls c =
    let b : Brokered = broker_view c.self.inside in
    let turn : b.recovery ≡ Some (RecoverQueue c.args.slot) = ap (λ (x : Brokered). x.recovery) c.self.view_is ∙ c.requires in
    let was : Slot = c.index_mut.result.now in
    let here : slice_get b.slots c.args.slot.0 ≡ Some was = slice_get_read b.slots 8 c.args.slot.0 was (sym c.self.invariant.well.count) (its_slot b c.self.invariant.well c.args.slot turn) c.index_mut.ensures.value in
    let ready : (answer_in c.recover_step.result) ≡ Ok true = ap (answer_in {T = Bool}) c.in_ok-ready.was ∙ ap (λ (x : Bool). let r : Result Bool Refusal = Ok x in r) c.if-not-ready.false in
    let recovery : Option BrokerRecovery = c.recovery_from-self-inside.result in
    let next : IsNext b.directory (c.args.slot.0 + 1) recovery = c.recovery_from-self-inside.ensures in
    let now : Brokered = with_slot b c.args.slot.0 c.recover_step.new.self c.recover_step.new.memory.words in
    let less : steps_left (record now { recovery = recovery; creation = creation_after b.creation recovery }) < steps_left b = falls_ready b c.args.slot was c.recover_step.new.self c.recover_step.new.memory.words c.self.invariant.well here c.recover_step.ensures.well c.recover_step.ensures.outside c.recover_step.ensures.same turn (answer_in c.recover_step.result) c.recover_step.ensures.act.world c.recover_step.ensures.act.answers ready recovery next in
    subst (λ (x : Brokered). left_at now recovery < steps_left x) c.self.view_is less

pub returns-in_err-ready-clause-full : goal.returns-in_err-ready-clause-full
returns-in_err-ready-clause-full c = λ no_memory.
    let b : Brokered = broker_view c.self.inside in
    let turn : b.recovery ≡ Some (RecoverQueue c.args.slot) = ap (λ (x : Brokered). x.recovery) c.self.view_is ∙ c.requires in
    let was : Slot = c.index_mut.result.now in
    let here : slice_get b.slots c.args.slot.0 ≡ Some was = slice_get_read b.slots 8 c.args.slot.0 was (sym c.self.invariant.well.count) (its_slot b c.self.invariant.well c.args.slot turn) c.index_mut.ensures.value in
    let answer : answer_in c.recover_step.result ≡ answer_in c.from_residual.result =
    ap (λ (r : Result (Noted Bool) Refusal). answer_in r) c.in_err-ready.was ∙ sym (answered_so c.from_residual.result c.in_err-ready.field-0.0 c.from_residual.ensures) in
    let full : room_in was ≡ 0 = c.recover_step.ensures.act.full (ap (is_no_memory {X = Bool}) answer ∙ no_memory) in
    subst HasFullQueue c.self.view_is (full_here b c.self.invariant.well c.args.slot turn was here full)

pub returns-in_err-ready-clause-room : goal.returns-in_err-ready-clause-room
returns-in_err-ready-clause-room c = λ other.
    let b : Brokered = broker_view c.self.inside in
    let turn : b.recovery ≡ Some (RecoverQueue c.args.slot) = ap (λ (x : Brokered). x.recovery) c.self.view_is ∙ c.requires in
    let was : Slot = c.index_mut.result.now in
    let here : slice_get b.slots c.args.slot.0 ≡ Some was = slice_get_read b.slots 8 c.args.slot.0 was (sym c.self.invariant.well.count) (its_slot b c.self.invariant.well c.args.slot turn) c.index_mut.ensures.value in
    subst (λ (x : Brokered). room_at x other ≤ room_of (slice_get (slice_set b.slots c.args.slot.0 c.recover_step.new.self) other) + 1) c.self.view_is
    (rooms_after b.slots c.args.slot.0 was c.recover_step.new.self here c.recover_step.ensures.act.room other)

pub returns-in_err-ready-clause-spare : goal.returns-in_err-ready-clause-spare
returns-in_err-ready-clause-spare c =
    let b : Brokered = broker_view c.self.inside in
    let turn : b.recovery ≡ Some (RecoverQueue c.args.slot) = ap (λ (x : Brokered). x.recovery) c.self.view_is ∙ c.requires in
    let was : Slot = c.index_mut.result.now in
    let here : slice_get b.slots c.args.slot.0 ≡ Some was = slice_get_read b.slots 8 c.args.slot.0 was (sym c.self.invariant.well.count) (its_slot b c.self.invariant.well c.args.slot turn) c.index_mut.ensures.value in
    let refused : room_in was ≤ room_in c.recover_step.new.self = subst (λ (r : Result (Noted Bool) Refusal). IfErr (answer_in r) (λ e. room_in was ≤ room_in c.recover_step.new.self)) c.in_err-ready.was c.recover_step.ensures.act.spare in
    let all : (other : ℕ) → room_at c.args.self.now other ≤ room_of (slice_get (slice_set b.slots c.args.slot.0 c.recover_step.new.self) other) = λ other.
    subst (λ (x : Brokered). room_at x other ≤ room_of (slice_get (slice_set b.slots c.args.slot.0 c.recover_step.new.self) other)) c.self.view_is
    (rooms_kept b.slots c.args.slot.0 was c.recover_step.new.self here refused other) in
    left _ c.from_residual.result all

pub returns-then-not-ready-clause-room : goal.returns-then-not-ready-clause-room
returns-then-not-ready-clause-room c = λ other.
    let b : Brokered = broker_view c.self.inside in
    let turn : b.recovery ≡ Some (RecoverQueue c.args.slot) = ap (λ (x : Brokered). x.recovery) c.self.view_is ∙ c.requires in
    let was : Slot = c.index_mut.result.now in
    let here : slice_get b.slots c.args.slot.0 ≡ Some was = slice_get_read b.slots 8 c.args.slot.0 was (sym c.self.invariant.well.count) (its_slot b c.self.invariant.well c.args.slot turn) c.index_mut.ensures.value in
    subst (λ (x : Brokered). room_at x other ≤ room_of (slice_get (slice_set b.slots c.args.slot.0 c.recover_step.new.self) other) + 1) c.self.view_is
    (rooms_after b.slots c.args.slot.0 was c.recover_step.new.self here c.recover_step.ensures.act.room other)

pub returns-clause-room : goal.returns-clause-room
returns-clause-room c = λ other.
    let b : Brokered = broker_view c.self.inside in
    let turn : b.recovery ≡ Some (RecoverQueue c.args.slot) = ap (λ (x : Brokered). x.recovery) c.self.view_is ∙ c.requires in
    let was : Slot = c.index_mut.result.now in
    let here : slice_get b.slots c.args.slot.0 ≡ Some was = slice_get_read b.slots 8 c.args.slot.0 was (sym c.self.invariant.well.count) (its_slot b c.self.invariant.well c.args.slot turn) c.index_mut.ensures.value in
    subst (λ (x : Brokered). room_at x other ≤ room_of (slice_get (slice_set b.slots c.args.slot.0 c.recover_step.new.self) other) + 1) c.self.view_is
    (rooms_after b.slots c.args.slot.0 was c.recover_step.new.self here c.recover_step.ensures.act.room other)

pub returns-in_err-ready-clause-promises : goal.returns-in_err-ready-clause-promises
returns-in_err-ready-clause-promises c = promises_well _ (invariant_of-self c).well

pub returns-then-not-ready-clause-promises : goal.returns-then-not-ready-clause-promises
returns-then-not-ready-clause-promises c = promises_well _ (invariant_of-self-then-not-ready c).well

pub returns-clause-promises : goal.returns-clause-promises
returns-clause-promises c = promises_well _ (invariant_of-self-2 c).well

pub returns-in_err-ready-clause-noted : goal.returns-in_err-ready-clause-noted
returns-in_err-ready-clause-noted c =
    noted_as c.from_residual.result c.in_err-ready.field-0.0 c.from_residual.ensures _ _
    (subst (λ (x : Brokered). IsNoted None x.words.kept c.recover_step.new.memory.words.kept) c.self.view_is c.in_err-ready.ensures.noted)

pub returns-in_err-ready-clause-told : goal.returns-in_err-ready-clause-told
returns-in_err-ready-clause-told c = λ slot down up. absurd (cc (sym up ∙ ap (λ (x : Brokered). is_ready_at x.recovery slot) c.self.view_is ∙ down))

pub returns-in_err-ready-clause-falls : goal.returns-in_err-ready-clause-falls
returns-in_err-ready-clause-falls c = nothing _ c.from_residual.result c.in_err-ready.field-0.0 c.from_residual.ensures

pub returns-then-not-ready-clause-full : goal.returns-then-not-ready-clause-full
returns-then-not-ready-clause-full c = λ full. absurd (cc (full))

pub returns-then-not-ready-clause-spare : goal.returns-then-not-ready-clause-spare
returns-then-not-ready-clause-spare c = tt

pub returns-then-not-ready-clause-noted : goal.returns-then-not-ready-clause-noted
returns-then-not-ready-clause-noted c = subst (λ (x : Brokered). IsNoted c.in_ok-ready.field-0.change x.words.kept c.recover_step.new.memory.words.kept) c.self.view_is c.in_ok-ready.ensures.noted

pub returns-then-not-ready-clause-told : goal.returns-then-not-ready-clause-told
returns-then-not-ready-clause-told c = λ slot down up. absurd (cc (sym up ∙ ap (λ (x : Brokered). is_ready_at x.recovery slot) c.self.view_is ∙ down))

pub returns-clause-full : goal.returns-clause-full
returns-clause-full c = λ full. absurd (cc (full))

pub returns-clause-spare : goal.returns-clause-spare
returns-clause-spare c = tt

pub returns-clause-noted : goal.returns-clause-noted
returns-clause-noted c = subst (λ (x : Brokered). IsNoted c.in_ok-ready.field-0.change x.words.kept c.recover_step.new.memory.words.kept) c.self.view_is c.in_ok-ready.ensures.noted
