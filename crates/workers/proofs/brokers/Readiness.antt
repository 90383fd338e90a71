-- When a step of recovery leaves the broker ready.
use Rattle.std.proofs.Common.{◌≡◌, ◌∙◌, ℕ, Bool, true, false, not, Option, Some, None, Result, Ok, Err, slice_get, refl, sym, ap, subst, arith}
use Rattle.std.specs.Prelude.{IsSome, OnOk, is_none, is_some, nat_lt}
use Rattle.std.proofs.lemmas.Bool.{ltb-true}
use Rattle.words.specs.declared.refusal.Refusal.{Refusal}
use Rattle.words.specs.declared.refusal.Refusal.TheVariants.{NoMemory}
use Rattle.arena.specs.declared.broker.SlotId.{SlotId}
use Rattle.recover.specs.declared.recovery.Recovery.{Recovery}
use Rattle.interleave.specs.Calls.{is_no_memory}
use Rattle.interleave.specs.State.{State, recover_result, recover_result_with}
use Rattle.named.specs.Brokers.{Brokered, IsWell, is_ready_at, world_at, world_of}
use Rattle.named.specs.Slots.{IsReadyIn, answered}
use Rattle.named.specs.Stopping.{IsQueueOn, IsRecoveryStep}
use Rattle.named.specs.declared.recovery.BrokerRecovery.{BrokerRecovery}
use Rattle.named.specs.declared.recovery.BrokerRecovery.TheVariants.{ReadDirectory, RecoverQueue}
use Rattle.named.specs.declared.slot.Slot.{Slot}
use Rattle.named.specs.declared.slot.Slot.TheVariants.{Closed, Open}
use Rattle.named.proofs.Facts.{its_queue, listed_open}
use Rattle.workers.specs.Recovered.{is_ready_after}

-- no number is below itself
not_below : (b : Bool) (n : ℕ) → nat_lt n n ≡ b → not b ≡ true
not_below false n is = refl
not_below true n is = let less = ltb-true n n is in absurd (omega (arith, less))

-- the queue that recovers is not ready
pub waits_there : (b : Brokered) → IsWell b → (slot : SlotId) → b.recovery ≡ Some (RecoverQueue slot) → (w : State)
    → world_at b slot.0 ≡ Some w → is_some w.recovery ≡ true
waits_there b well slot turn w here = go (slice_get b.slots slot.0) refl here
  where
    in_slot : (s : Slot) → IsReadyIn (nat_lt slot.0 slot.0) s → world_of b.words (Some s) ≡ Some w
        → is_some w.recovery ≡ true
    in_slot Closed waits there = absurd (cc (there))
    in_slot (Open block) waits there =
        let recovery = ap (λ (o : Option State). recovery_in o) there in
        ap (λ (o : Option Recovery). is_some o) (sym recovery) ∙ (waits ∙ not_below (nat_lt slot.0 slot.0) slot.0 refl)
      where
        recovery_in : Option State → Option Recovery
        recovery_in (Some v) = v.recovery
        recovery_in None = None

    go : (o : Option Slot) → slice_get b.slots slot.0 ≡ o → world_of b.words o ≡ Some w → is_some w.recovery ≡ true
    go None is there = absurd (cc (there))
    go (Some s) is there =
        in_slot s (subst (λ (r : Option BrokerRecovery). IsReadyIn (is_ready_at r slot.0) s) turn
        (well.readiness slot.0 s is)) there

-- once a step answered so, the broker is ready
pub ready_after : (old new : Brokered) (result : Result Bool Refusal) → IsWell old
    → IsRecoveryStep old new result old.recovery → is_ready_after result ≡ true → new.recovery ≡ None
ready_after old new result well step ready = go old.recovery refl step
  where
    none_left : (o : Option BrokerRecovery) → is_none o ≡ true → o ≡ None
    none_left None is = refl
    none_left (Some r) is = absurd (cc (is))

    by_answer : result ≡ Ok (is_none new.recovery) → new.recovery ≡ None
    by_answer is = none_left new.recovery (sym (ap is_ready_after is) ∙ ready)

    by_queue : (slot : ℕ) (w : State) → is_some w.recovery ≡ true → (answer : Result Bool Refusal)
        → recover_result (is_no_memory result) w ≡ answer → IsQueueOn old new slot result answer → new.recovery ≡ None
    by_queue slot w down (Ok true) is on = by_answer on.0
    by_queue slot w down (Ok false) is on = absurd (cc (sym (ap is_ready_after on.0) ∙ ready))
    by_queue slot w down (Err refusal) is on = absurd (unready w.recovery down refusal is on)
      where
        unready : (o : Option Recovery) → is_some o ≡ true → (e : Refusal)
            → recover_result_with (is_no_memory result) w o ≡ Err e → IsQueueOn old new slot result (Err e) → ⊥
        unready None some e is on = absurd (cc (some))
        unready (Some r) some e is on = full (is_no_memory result) is
          where
            full : (f : Bool) → recover_result_with f w (Some r) ≡ Err e → ⊥
            full true is =
                let none : NoMemory ≡ e = cc (is) in
                absurd (cc (sym (ap is_ready_after (on.0 ∙ ap (λ (x : Refusal). let y : Result Bool Refusal = Err x in y) (sym none))) ∙ ready))
            full false is = absurd (cc (is))

    go : (o : Option BrokerRecovery) → old.recovery ≡ o → IsRecoveryStep old new result o → new.recovery ≡ None
    go None e same = ap (λ (b : Brokered). b.recovery) same.1 ∙ e
    go (Some (ReadDirectory at)) e read = by_answer read.answer
    go (Some (RecoverQueue slot)) e recovered = there (world_at old slot.0) refl recovered.next
      where
        there : (o : Option State) → world_at old slot.0 ≡ o
            → IsQueueOn old new slot.0 result (answered (recover_result (is_no_memory result)) o) → new.recovery ≡ None
        there None none on =
            let it = its_queue old well slot e in
            absurd (cc (listed_open old slot.0 it.queue well it.has, none))
        there (Some w) here on =
            by_queue slot.0 w (waits_there old well slot e w here) (recover_result (is_no_memory result) w) refl on

-- a step was made only while the broker was down
pub down_before : (old new : Brokered) (result : Result Bool Refusal) → IsRecoveryStep old new result old.recovery
    → OnOk result (IsSome old.recovery)
down_before old new result step = go old.recovery step
  where
    some : (r : BrokerRecovery) (answer : Result Bool Refusal)
        → OnOk answer (IsSome (let o : Option BrokerRecovery = Some r in o))
    some r (Ok ready) = refl
    some r (Err refusal) = tt

    go : (o : Option BrokerRecovery) → IsRecoveryStep old new result o → OnOk result (IsSome o)
    go None same =
        subst (λ (a : Result Bool Refusal). OnOk a (IsSome (let o : Option BrokerRecovery = None in o))) (sym same.0) tt
    go (Some r) made = some r result
