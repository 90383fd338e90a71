-- A step of recovery that is under way is refused for want of memory alone.
use Rattle.std.proofs.Common.{◌≡◌, ℕ, Bool, true, false, is_some, Option, Some, None, Result, Ok, Err, slice_get, refl, sym, ap, subst, ◌∙◌, arith}
use Rattle.std.specs.Prelude.{IsSome, nat_lt}
use Rattle.std.proofs.lemmas.Bool.{le-ltb}
use Rattle.words.specs.declared.refusal.Refusal.{Refusal}
use Rattle.words.specs.declared.refusal.Refusal.TheVariants.{NoMemory}
use Rattle.arena.specs.declared.broker.SlotId.{SlotId}
use Rattle.persist.specs.Memory.{Words}
use Rattle.recover.specs.declared.recovery.Recovery.{Recovery}
use Rattle.interleave.specs.Calls.{is_no_memory}
use Rattle.protocol.specs.Machine.{next_recovery}
use Rattle.interleave.specs.State.{State, is_ready, machine, recover_result, recover_result_with}
use Rattle.named.specs.Blocks.{state_in}
use Rattle.named.specs.Brokers.{Brokered, IsWell, is_down, is_ready_at, world_at, world_of}
use Rattle.named.specs.Slots.{IsReadyIn, answered, world_in}
use Rattle.named.specs.Stopping.{IsQueueOn, IsRecoveryStep}
use Rattle.named.specs.declared.recovery.BrokerRecovery.{BrokerRecovery}
use Rattle.named.specs.declared.recovery.BrokerRecovery.TheVariants.{ReadDirectory, RecoverQueue}
use Rattle.named.specs.declared.slot.Slot.{Slot}
use Rattle.named.specs.declared.slot.Slot.TheVariants.{Closed, Open}
use Rattle.named.proofs.Facts.{its_queue, listed_open, none_some}

-- a queue that is not ready recovers
recovers_in : (ws : Words) (slot : Slot) (w : State) → IsReadyIn false slot → world_in ws slot ≡ Some w
    → is_some w.recovery ≡ true
recovers_in ws Closed w down e = absurd (none_some e)
recovers_in ws (Open block) w down e =
    let same : state_in ws block ≡ w = cc (e) in
    ap (λ (x : State). is_some x.recovery) (sym same) ∙ down

module _ (old new : Brokered) (e : Refusal) (well : IsWell old) where
  -- the queue whose turn it is recovers
  recovers_at : (at : SlotId) → old.recovery ≡ Some (RecoverQueue at) → (w : State) → world_at old at.0 ≡ Some w
      → is_some w.recovery ≡ true
  recovers_at at turn w here = go (slice_get old.slots at.0) refl here
    where
      go : (o : Option Slot) → slice_get old.slots at.0 ≡ o → world_of old.words o ≡ Some w → is_some w.recovery ≡ true
      go None is there = absurd (none_some there)
      go (Some slot) is there =
          let ready : IsReadyIn (nat_lt at.0 at.0) slot =
          subst (λ (r : Option BrokerRecovery). IsReadyIn (is_ready_at r at.0) slot) turn
          (well.readiness at.0 slot is) in
          let down : IsReadyIn false slot =
          subst (λ (b : Bool). IsReadyIn b slot) (le-ltb at.0 at.0 (omega arith)) ready in
          recovers_in old.words slot w down there

  -- its step answers a refusal for want of memory alone
  by_answer : (at : ℕ) (answer : Bool) → IsQueueOn old new at (Err e) (Ok answer) → ⊥
  by_answer at true on = absurd (cc (on.0))
  by_answer at false on = absurd (cc (on.0))

  by_recovery : (at : ℕ) (w : State) (r : Option Recovery) (full : Bool) → is_some r ≡ true
      → IsQueueOn old new at (Err e) (recover_result_with full w r) → e ≡ NoMemory
  by_recovery at w None full down on = absurd (cc (down))
  by_recovery at w (Some r) true down on = cc (on.0)
  by_recovery at w (Some r) false down on = absurd (by_answer at (is_ready (next_recovery (machine w) r)) on)

  by_world : (at : SlotId) (full : Bool) → old.recovery ≡ Some (RecoverQueue at) → (o : Option State)
      → world_at old at.0 ≡ o → IsSome o → IsQueueOn old new at.0 (Err e) (answered (recover_result full) o)
      → e ≡ NoMemory
  by_world at full turn None here open_there on = absurd (cc (open_there))
  by_world at full turn (Some w) here open_there on =
      by_recovery at.0 w w.recovery full (recovers_at at turn w here) on

  pub refused_for_memory : is_down old ≡ true → IsRecoveryStep old new (Err e) old.recovery → e ≡ NoMemory
  refused_for_memory down step = go old.recovery refl step
    where
      go : (r : Option BrokerRecovery) → old.recovery ≡ r → IsRecoveryStep old new (Err e) r → e ≡ NoMemory
      go None is made =
          let up : is_down old ≡ false = ap (λ (r : Option BrokerRecovery). is_some r) is in absurd (cc (up, down))
      go (Some (ReadDirectory at)) is made = absurd (cc (made.answer))
      go (Some (RecoverQueue at)) is made =
          let it = its_queue old well at is in
          let refused : Result Bool Refusal = Err e in
          by_world at (is_no_memory refused) is (world_at old at.0) refl (listed_open old at.0 it.queue well it.has)
          made.next
