-- What a step of a creation, and of recovery, leaves of a broker's queues.
use Rattle.std.proofs.Common.{◌≡◌, ◌≢◌, ℕ, ◌<◌, ◌⊎◌, inl, inr, Bool, true, false, Option, Some, None, Result, Ok, Err, IfOk, IfSome, length, slice_get, slice_set, refl, sym, ap, subst, ◌∙◌, arith}
use Rattle.std.proofs.lemmas.Bool.{cases_eq}
use Rattle.std.proofs.lemmas.Option.{slice_get_within}
use Rattle.words.specs.declared.refusal.Refusal.{Refusal}
use Rattle.persist.specs.Memory.{Words}
use Rattle.arena.specs.declared.broker.SlotId.{SlotId}
use Rattle.stepper.specs.declared.resume.After.{After}
use Rattle.stepper.specs.declared.resume.After.TheVariants.{More, Done}
use Rattle.directory.specs.Creation.{successor}
use Rattle.directory.specs.Directory.{Directory, IsFree}
use Rattle.directory.specs.Queue.{IsOpenSlot}
use Rattle.directory.proofs.Facts.{recovery_opens}
use Rattle.directory.specs.declared.creation.Creation.{Creation}
use Rattle.directory.specs.declared.queue.Queue.{Queue}
use Rattle.directory.specs.declared.recovery.DirectoryRecovery.{DirectoryRecovery}
use Rattle.protocol.specs.declared.acts.Act.TheVariants.{Recover}
use Rattle.interleave.specs.Calls.{is_no_memory}
use Rattle.interleave.specs.State.{State, after_recover, recover_result}
use Rattle.named.specs.Brokers.{Brokered, IsDirectoryAt, IsDirectoryDown, IsStepCreated, IsWell, quiet, world_at}
use Rattle.named.specs.Brokers.{world_of}
use Rattle.named.specs.GoingOn.{BrokerGoesOn, IsDowntime, IsGoneOn}
use Rattle.named.specs.Slots.{acted, answered, kind_in, world_in}
use Rattle.named.specs.Stopping.{IsDirectoryRead, IsFound, IsFoundFirst, IsFoundIn, IsKnownAlike, IsQueueOn}
use Rattle.named.specs.Stopping.{IsQueueRecovered, IsReadOn, IsStopped, found_by}
use Rattle.named.specs.declared.recovery.BrokerRecovery.{BrokerRecovery}
use Rattle.named.specs.declared.recovery.BrokerRecovery.TheVariants.{ReadDirectory}
use Rattle.named.specs.declared.slot.Slot.{Slot}
use Rattle.named.specs.declared.slot.Slot.TheVariants.{Closed, Open}
use Rattle.named.proofs.acts.Continuity.{crash_goes_on, creation_stays, each_goes_on, more_directory, on_by_act}
use Rattle.named.proofs.acts.Continuity.{on_if_quiet, only_more, same_downtime, slot_goes_on, world_holds}
use Rattle.named.proofs.creations.Beginnings.{get_there}
use Rattle.named.proofs.creations.Steps.{is_free}

no_world : (ws : Words) (slot : Slot) → kind_in slot ≡ None → world_in ws slot ≡ None
no_world ws Closed e = refl
no_world ws (Open block) e = absurd (cc)

-- a slot that is free in the directory has no world
free_no_world : (b : Brokered) (slot : ℕ) (w : State) → IsWell b → IsFree b.directory slot → world_at b slot ≡ Some w → ⊥
free_no_world b slot w holds free e = go (slice_get b.slots slot) refl e
  where
    go : (o : Option Slot) → slice_get b.slots slot ≡ o → world_of b.words o ≡ Some w → ⊥
    go None is there = absurd (cc)
    go (Some s) is there = let none = no_world b.words s (holds.kinds slot s None is free) in absurd (cc (none, there))

-- queues that are as they were, but for a slot that is opened
opened_goes_on : (old new : Brokered) (at : ℕ) (queue : Queue) → IsWell old → IsFree old.directory at → new.counts ≡ old.counts
    → new.directory ≡ slice_set old.directory at (Some queue)
    → ((j : ℕ) → j ≢ at → quiet (world_at new j) ≡ quiet (world_at old j)) → BrokerGoesOn old new
opened_goes_on old new at queue holds free counts directory others = record {
  counts = counts;
  directory = λ slot q has. ap (λ (d : Directory). slice_get d slot) directory ∙ more_directory old.directory at queue free slot q has;
  worlds = λ slot w e. go slot w e (cases_eq slot at);
}
  where
    go : (slot : ℕ) (w : State) → world_at old slot ≡ Some w → (slot ≡ at) ⊎ (slot ≡ at → ⊥) → IsGoneOn w (world_at new slot)
    go slot w e (inl same) = absurd (free_no_world old at w holds free (ap (world_at old) (sym same) ∙ e))
    go slot w e (inr ne) = on_if_quiet w (world_at new slot) (others slot ne ∙ ap quiet e)

-- all queues as they were but for the count of accesses
quiet_goes_on : (old new : Brokered) → new.counts ≡ old.counts → new.directory ≡ old.directory → ((j : ℕ) → quiet (world_at new j) ≡ quiet (world_at old j)) → BrokerGoesOn old new
quiet_goes_on old new counts directory same =
    each_goes_on old new counts directory (λ slot w e. on_if_quiet w (world_at new slot) (same slot ∙ ap quiet e))

pub creation_step_goes_on : (old new : Brokered) (creation : Creation) (result : Result (Option SlotId) Refusal) → IsWell old → old.recovery ≡ None
    → old.creation ≡ Some creation → IsStepCreated old new creation result (successor creation)
    → ((other : ℕ) → IfOk result (λ opened. IfSome opened (λ slot. other ≢ slot.0)) → quiet (world_at new other) ≡ quiet (world_at old other))
    → BrokerGoesOn old new
creation_step_goes_on old new creation result holds ready is step others = go (successor creation) refl step
  where
    go : (a : After Creation SlotId) → successor creation ≡ a → IsStepCreated old new creation result a → BrokerGoesOn old new
    go (More next) e (answer, same) =
        quiet_goes_on old new (ap (λ (b : Brokered). b.counts) same) (ap (λ (b : Brokered). b.directory) same) (λ j.
        others j (subst (λ (r : Result (Option SlotId) Refusal). IfOk r (λ opened. IfSome opened (λ slot. j ≢ slot.0))) (sym answer) tt))
    go (Done slot) e (answer, opened) =
        opened_goes_on old new slot.0 creation.queue holds (is_free old creation holds ready is slot e) opened.counts opened.directory (λ j ne.
        others j (subst (λ (r : Result (Option SlotId) Refusal). IfOk r (λ opened. IfSome opened (λ slot. j ≢ slot.0))) (sym answer) ne))

-- so it is of the creation that a broker has
pub made_goes_on : (old new : Brokered) (creation : Creation) (result : Result (Option SlotId) Refusal) → IsWell old → old.recovery ≡ None
    → old.creation ≡ Some creation
    → IfSome old.creation (λ k. IsStepCreated old new k result (successor k))
    → ((other : ℕ) → IfOk result (λ opened. IfSome opened (λ slot. other ≢ slot.0)) → quiet (world_at new other) ≡ quiet (world_at old other))
    → BrokerGoesOn old new
made_goes_on old new creation result holds ready is step others =
    creation_step_goes_on old new creation result holds ready is
    (subst (λ (o : Option Creation). IfSome o (λ k. IsStepCreated old new k result (successor k))) is step) others

pub crash_downtime : (old new : Brokered) → IsWell old → IsStopped old new → IsDowntime old new
crash_downtime old new holds stopped =
    same_downtime old new (crash_goes_on old new holds stopped) (ap (λ (b : Brokered). b.directory) stopped.same)
    (inl (ap (λ (b : Brokered). b.creation) stopped.same))

-- the slot of a world that recovery is the first to find is free in what was known
first_free : (old : Brokered) (slot : ℕ) → IsWell old → world_at old slot ≡ None → slot < length old.slots → IsFree old.directory slot
first_free old slot holds none below = go (slice_get old.slots slot) refl (slice_get old.directory slot) refl
  where
    closed : (s : Slot) → world_in old.words s ≡ None → kind_in s ≡ None
    closed Closed e = refl
    closed (Open block) e = absurd (cc)

    go : (o : Option Slot) → slice_get old.slots slot ≡ o → (d : Option (Option Queue)) → slice_get old.directory slot ≡ d → IsFree old.directory slot
    go (Some s) is (Some None) there = there
    go (Some s) is (Some (Some queue)) there =
        let kind = holds.kinds slot s (Some queue) is there in
        let none_here : world_in old.words s ≡ None = sym (ap (world_of old.words) is) ∙ none in
        absurd (cc (closed s none_here, kind))
    go (Some s) is None there = absurd (get_there old.directory slot (omega (arith, below, holds.count, holds.listed.count)) there)
    go None is d there = absurd (get_there old.slots slot below is)

-- a slot whose gate was found open is one of the eight
opened_below : (old : Brokered) (at : DirectoryRecovery) (slot : SlotId) → IsWell old → old.recovery ≡ Some (ReadDirectory at)
    → (found_by old at).opened ≡ Some slot → slot.0 < length old.slots
opened_below old at slot holds is e =
    let reading : IsDirectoryDown old.words (ReadDirectory at) old.creation old.directory =
    subst (λ (o : Option BrokerRecovery). IsDirectoryAt old.words o old.creation old.directory) is holds.directory in
    let opens = recovery_opens old.counts old.words at reading.whole reading.recovering in
    let in_range : slot.0 < 8 = (subst (λ (o : Option SlotId). IfSome o (λ (s : SlotId). IsOpenSlot old.words.kept s.0)) e opens).in_range in
    omega (arith, in_range, holds.count)

read_creation : (old new : Brokered) (a : After DirectoryRecovery Directory) → IsReadOn old new a → (new.creation ≡ old.creation) ⊎ (new.recovery ≡ None)
read_creation old new (More next) on = inl on.1
read_creation old new (Done places) on = creation_stays old.creation new.creation new.recovery on.2

alike_downtime : (old new : Brokered) → new.counts ≡ old.counts → (new.creation ≡ old.creation) ⊎ (new.recovery ≡ None) → IsKnownAlike old new → IsDowntime old new
alike_downtime old new counts creation alike = same_downtime old new (quiet_goes_on old new counts alike.directory alike.worlds) alike.directory creation

first_downtime : (old new : Brokered) (slot : SlotId) → IsWell old → slot.0 < length old.slots → new.counts ≡ old.counts → world_at old slot.0 ≡ None → (new.creation ≡ old.creation) ⊎ (new.recovery ≡ None)
    → IsFoundFirst old new slot → IsDowntime old new
first_downtime old new slot holds below counts none creation first = record {
  goes_on = opened_goes_on old new slot.0 first.creation.queue holds free counts first.directory first.others;
  only = λ at queue has. elim (only_more old.directory slot.0 first.creation.queue at queue (slice_get_within old.directory slot.0 None free)
      (ap (λ (d : Directory). slice_get d at) (sym first.directory) ∙ has)) [
        | inl there ↦ inl there
        | inr its ↦ inr (record { creation = first.creation; is = first.dropped; slot_is = its.0 ∙ ap (λ (s : SlotId). s.0) first.here; queue_is = its.1 })
      ];
  creation = creation;
}
  where
    free : IsFree old.directory slot.0
    free = first_free old slot.0 holds none below

found_downtime : (old new : Brokered) (slot : SlotId) (o : Option State) → IsWell old → slot.0 < length old.slots → new.counts ≡ old.counts → world_at old slot.0 ≡ o
    → (new.creation ≡ old.creation) ⊎ (new.recovery ≡ None) → IsFoundIn old new slot o → IsDowntime old new
found_downtime old new slot (Some w) holds below counts e creation found = alike_downtime old new counts creation found
found_downtime old new slot None holds below counts e creation found = first_downtime old new slot holds below counts e creation found

pub directory_downtime : (old new : Brokered) (at : DirectoryRecovery) (result : Result Bool Refusal) → IsWell old → old.recovery ≡ Some (ReadDirectory at)
    → IsDirectoryRead old new at result → IsDowntime old new
directory_downtime old new at result holds is read = go (found_by old at).opened refl read.found
  where
    creation : (new.creation ≡ old.creation) ⊎ (new.recovery ≡ None)
    creation = read_creation old new (found_by old at).after read.next

    go : (o : Option SlotId) → (found_by old at).opened ≡ o → IsFound old new o → IsDowntime old new
    go None e found = alike_downtime old new read.counts creation found
    go (Some slot) e found = found_downtime old new slot (world_at old slot.0) holds (opened_below old at slot holds is e) read.counts refl creation found

queue_creation : (old new : Brokered) (slot : ℕ) (result r : Result Bool Refusal) → IsQueueOn old new slot result r → (new.creation ≡ old.creation) ⊎ (new.recovery ≡ None)
queue_creation old new slot result (Err refusal) on = inl on.2
queue_creation old new slot result (Ok false) on = inl on.2
queue_creation old new slot result (Ok true) on = creation_stays old.creation new.creation new.recovery on.2

pub queue_downtime : (old new : Brokered) (slot : ℕ) (result : Result Bool Refusal) → IsWell old → IsQueueRecovered old new slot result → IsDowntime old new
queue_downtime old new slot result holds step =
    same_downtime old new
    (slot_goes_on old new slot step.counts step.directory
    (λ w e. on_by_act (is_no_memory result) w Recover (world_at new slot) (world_holds old slot w holds e) (step.world ∙ ap (acted (after_recover (is_no_memory result))) e))
    step.others)
    step.directory
    (queue_creation old new slot result (answered (recover_result (is_no_memory result)) (world_at old slot)) step.next)
