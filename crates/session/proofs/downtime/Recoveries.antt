-- What is kept over a step of recovery, and that the numbers which were answered stay so.
use Rattle.std.proofs.Common.{◌≡◌, ℕ, ◌⊎◌, inl, inr, Bool, true, false, is_none, is_some, List, Option, Some, None, Result, Ok, Err, refl, sym, ap, subst, ◌∙◌}
use Rattle.std.proofs.lemmas.Bool.{cases_eq}
use Rattle.words.specs.declared.call.Kind.TheVariants.{Log as log_kind}
use Rattle.words.specs.declared.refusal.Refusal.{Refusal}
use Rattle.words.specs.declared.told.Verdict.{Verdict}
use Rattle.arena.specs.Shape.{Shape}
use Rattle.arena.specs.declared.broker.SlotId.{SlotId}
use Rattle.recover.specs.Table.{boot_recovery as queue_recovery}
use Rattle.protocol.specs.declared.acts.Act.TheVariants.{Recover}
use Rattle.interleave.specs.Calls.{is_no_memory}
use Rattle.interleave.specs.State.{State, after_recover, recover_result}
use Rattle.named.specs.Brokers.{Brokered, IsWell, is_down, quiet, world_at}
use Rattle.named.specs.Slots.{acted, answered}
use Rattle.named.specs.Stopping.{IsFound, IsFoundFirst, IsFoundIn, IsQueueOn, IsQueueRecovered, IsRecoveryStep}
use Rattle.named.specs.Stopping.{found_by, found_world}
use Rattle.named.specs.declared.recovery.BrokerRecovery.{BrokerRecovery}
use Rattle.named.specs.declared.recovery.BrokerRecovery.TheVariants.{ReadDirectory, RecoverQueue}
use Rattle.named.proofs.Facts.{recovered_shape}
use Rattle.session.specs.Sessions.{IsSlotRight, kept_in}
use Rattle.session.proofs.calls.Slots.{rested_recovered, right_down, right_if_none, right_if_quiet}
use Rattle.session.proofs.brokers.Worlds.{holds_there}

-- what is kept of each slot is right while the broker is down
abbrev pub AreDownRight : Brokered → List (List (Option Verdict)) → Type 0
AreDownRight b kept = (slot : ℕ) → IsSlotRight false (world_at b slot) (kept_in kept slot)

module _ (old new : Brokered) (kept : List (List (Option Verdict))) (well : IsWell old) (well_new : IsWell new)
    (right : AreDownRight old kept) where
  quiet_slot : (slot : ℕ) → quiet (world_at new slot) ≡ quiet (world_at old slot)
      → IsSlotRight false (world_at new slot) (kept_in kept slot)
  quiet_slot slot same =
      right_if_quiet false (world_at old slot) (world_at new slot) (kept_in kept slot) same (right slot)

  -- a slot that recovery is the first to find open had nothing kept
  first_found : (at : SlotId) → world_at old at.0 ≡ None → IsFoundFirst old new at → AreDownRight new kept
  first_found at closed first slot = go (cases_eq slot at.0)
    where
      found : State
      found = found_world old first.creation.queue.kind at.0 new.words

      none : (client : ℕ) → kept_in kept at.0 client ≡ None
      none = subst (λ (o : Option State). IsSlotRight false o (kept_in kept at.0)) closed (right at.0)

      here : IsSlotRight false (world_at new at.0) (kept_in kept at.0)
      here =
          subst (λ (o : Option State). IsSlotRight false o (kept_in kept at.0)) (sym first.world)
          (right_if_none found queue_recovery (holds_there new well_new at.0 found first.world) refl
          (kept_in kept at.0) none)

      go : (slot ≡ at.0) ⊎ (slot ≡ at.0 → ⊥) → IsSlotRight false (world_at new slot) (kept_in kept slot)
      go (inl same) = subst (λ (i : ℕ). IsSlotRight false (world_at new i) (kept_in kept i)) (sym same) here
      go (inr ne) = quiet_slot slot (first.others slot ne)

  found_in : (at : SlotId) (o : Option State) → world_at old at.0 ≡ o → IsFoundIn old new at o → AreDownRight new kept
  found_in at None closed found = first_found at closed found
  found_in at (Some w) here found = λ slot. quiet_slot slot (found.worlds slot)

  found_right : (o : Option SlotId) → IsFound old new o → AreDownRight new kept
  found_right None found = λ slot. quiet_slot slot (found.worlds slot)
  found_right (Some at) found = found_in at (world_at old at.0) refl found

  -- the queue that recovers
  recovered_slot : (full : Bool) (slot : ℕ) (o : Option State) → world_at old slot ≡ o
      → IsSlotRight false o (kept_in kept slot) → IsSlotRight false (acted (after_recover full) o) (kept_in kept slot)
  recovered_slot full slot None here is = is
  recovered_slot full slot (Some w) here is =
      let holds = holds_there old well slot w here in
      let shape = recovered_shape full w in
      right_down full w Recover holds (kept_in kept slot) shape false
      (λ log ready.
      let was : w.shape.kind ≡ log_kind = ap (λ (s : Shape). s.kind) (sym shape) ∙ log in
      rested_recovered full w holds was ((is was).rested refl) ready) is

  queue_right : (at : ℕ) (result : Result Bool Refusal) → IsQueueRecovered old new at result → AreDownRight new kept
  queue_right at result step slot = go (cases_eq slot at)
    where
      here : IsSlotRight false (world_at new at) (kept_in kept at)
      here =
          subst (λ (o : Option State). IsSlotRight false o (kept_in kept at)) (sym step.world)
          (recovered_slot (is_no_memory result) at (world_at old at) refl (right at))

      go : (slot ≡ at) ⊎ (slot ≡ at → ⊥) → IsSlotRight false (world_at new slot) (kept_in kept slot)
      go (inl same) = subst (λ (i : ℕ). IsSlotRight false (world_at new i) (kept_in kept i)) (sym same) here
      go (inr ne) = quiet_slot slot (step.others slot ne)

-- how far recovery is after a step that answers so
abbrev pub IsAsFar : Brokered → Brokered → Result Bool Refusal → Type 0
IsAsFar old new (Ok true) = new.recovery ≡ None
IsAsFar old new (Ok false) = is_down new ≡ true
IsAsFar old new (Err refusal) = new.recovery ≡ old.recovery

by_answer : (old new : Brokered) (result : Result Bool Refusal) → result ≡ Ok (is_none new.recovery)
    → IsAsFar old new result
by_answer old new (Ok true) answer = go new.recovery answer
  where
    go : (o : Option BrokerRecovery) → (let r : Result Bool Refusal = Ok true in r) ≡ Ok (is_none o) → o ≡ None
    go None e = refl
    go (Some r) e = absurd (cc (e))
by_answer old new (Ok false) answer = go new.recovery answer
  where
    go : (o : Option BrokerRecovery) → (let r : Result Bool Refusal = Ok false in r) ≡ Ok (is_none o) → is_some o ≡ true
    go None e = absurd (cc (e))
    go (Some r) e = refl
by_answer old new (Err refusal) answer = absurd (cc (answer))

as_it_was : (old new : Brokered) (result : Result Bool Refusal) (before : Bool) → result ≡ Ok before → before ≡ false
    → new.recovery ≡ old.recovery → is_down old ≡ true → IsAsFar old new result
as_it_was old new (Ok true) before is off same down = absurd (cc (is, off))
as_it_was old new (Ok false) before is off same down = ap (λ (o : Option BrokerRecovery). is_some o) same ∙ down
as_it_was old new (Err refusal) before is off same down = same

queue_far : (old new : Brokered) (at : ℕ) (result r : Result Bool Refusal) → is_down old ≡ true
    → IsQueueOn old new at result r → IsAsFar old new result
queue_far old new at result (Ok true) down on = by_answer old new result on.0
queue_far old new at result (Ok false) down on = as_it_was old new result false on.0 refl on.1 down
queue_far old new at result (Err refusal) down on = subst (IsAsFar old new) (sym on.0) on.1

-- a step of recovery that is under way
pub record IsStepDown (old new : Brokered) (kept : List (List (Option Verdict))) (result : Result Bool Refusal)
    : Type 0 where
  pub right : AreDownRight new kept
  pub far : IsAsFar old new result

pub step_down : (old new : Brokered) (kept : List (List (Option Verdict))) (result : Result Bool Refusal)
    (r : BrokerRecovery) → IsWell old → IsWell new → AreDownRight old kept → is_down old ≡ true
    → IsRecoveryStep old new result (Some r) → IsStepDown old new kept result
step_down old new kept result (ReadDirectory at) well well_new right down step = record {
  right = found_right old new kept well well_new right (found_by old at).opened step.found;
  far = by_answer old new result step.answer;
}
step_down old new kept result (RecoverQueue at) well well_new right down step = record {
  right = queue_right old new kept well well_new right at.0 result step;
  far =
      queue_far old new at.0 result (answered (recover_result (is_no_memory result)) (world_at old at.0)) down
      step.next;
}
