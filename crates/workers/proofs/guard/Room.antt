-- Recovery is not refused memory where each queue that is to recover has room for the event of its end.
use Rattle.std.proofs.Common.{◌≡◌, ◌∙◌, ◌≤◌, ℕ, inl, inr, Bool, true, false, List, Option, Some, None, Result, Ok, Err, refl, sym, ap, subst, arith}
use Rattle.std.proofs.lemmas.Bool.{cases_eq}
use Rattle.std.specs.Prelude.{IfErr, IsSome}
use Rattle.words.specs.declared.refusal.Refusal.{Refusal}
use Rattle.words.specs.declared.refusal.Refusal.TheVariants.{AlreadyReady}
use Rattle.words.specs.declared.told.Told.{Told}
use Rattle.arena.specs.declared.broker.SlotId.{SlotId}
use Rattle.stepper.specs.declared.resume.After.{After}
use Rattle.stepper.specs.declared.resume.After.TheVariants.{Done, More}
use Rattle.recover.specs.declared.recovery.Recovery.{Recovery}
use Rattle.directory.specs.Directory.{Directory}
use Rattle.directory.specs.declared.recovery.DirectoryRecovery.{DirectoryRecovery}
use Rattle.protocol.specs.Machine.{next_recovery, recovery_left}
use Rattle.interleave.specs.Calls.{is_no_memory}
use Rattle.interleave.specs.State.{State, after_recover, is_ready, machine, recover_result, recover_result_with}
use Rattle.interleave.specs.State.{recover_with}
use Rattle.named.specs.Brokers.{Brokered, IsWell, quiet, room_at, world_at}
use Rattle.named.specs.Renewing.{HasRoomInEach, IsRenewedAt}
use Rattle.named.specs.Slots.{acted, answered}
use Rattle.named.specs.Stopping.{IsDirectoryRead, IsFound, IsFoundIn, IsQueueOn, IsQueueRecovered, IsReadOn}
use Rattle.named.specs.Stopping.{IsRecoveryStep, creation_after, found_by}
use Rattle.named.specs.declared.recovery.BrokerRecovery.{BrokerRecovery}
use Rattle.named.specs.declared.recovery.BrokerRecovery.TheVariants.{ReadDirectory, RecoverQueue}
use Rattle.named.proofs.Facts.{its_queue, listed_open}
use Rattle.workers.specs.Recovered.{IsRecoveryRefusal}
use Rattle.workers.specs.Renewing.{HasRoomToRecover}
use Rattle.workers.proofs.brokers.Readiness.{waits_there}

-- a broker that began in fresh records has it
pub room_when_renewed : (old new : Brokered) (slot : ℕ) → IsRenewedAt old new slot → HasRoomInEach new 1
    → HasRoomToRecover new
room_when_renewed old new slot renewed room = record {
  creation = renewed.booted.creation;
  room = λ at w here down. room at (subst (λ (o : Option State). IsSome o) (sym here) refl);
}

-- how a world recovers does not depend on the count of accesses
abbrev recovery_of : Option State → Option Recovery
recovery_of (Some w) = w.recovery
recovery_of None = None

quiet_recovery : (o : Option State) → recovery_of (quiet o) ≡ recovery_of o
quiet_recovery None = refl
quiet_recovery (Some w) = refl

some_if_quiet : (was : Option State) (w : State) → quiet was ≡ quiet (Some w) → IsSome was
some_if_quiet None w same = absurd (cc (same))
some_if_quiet (Some v) w same = refl

-- a slot whose world and room stay has it still
module _ (old new : Brokered) (has : HasRoomToRecover old) where
  room_beside : (at : ℕ) → quiet (world_at new at) ≡ quiet (world_at old at) → room_at old at ≤ room_at new at
      → (w : State) → world_at new at ≡ Some w → IsSome w.recovery → 1 ≤ room_at new at
  room_beside at same more w here down = go (world_at old at) refl
    where
      recovers : recovery_of (world_at old at) ≡ w.recovery
      recovers =
          sym (quiet_recovery (world_at old at)) ∙ (sym (ap recovery_of same)
          ∙ (quiet_recovery (world_at new at) ∙ ap recovery_of here))

      go : (o : Option State) → world_at old at ≡ o → 1 ≤ room_at new at
      go None there =
          absurd (cc (down, sym recovers ∙ ap recovery_of there))
      go (Some v) there =
          let was = has.room at v there (subst (λ (r : Option Recovery). IsSome r)
          (sym recovers ∙ ap recovery_of there) down) in
          omega (arith, was, more)

-- a queue that answers that it is ready is so
left_none : (a : After Recovery (List Told)) → is_ready a ≡ true → recovery_left a ≡ None
left_none (More r) is = absurd (cc (is))
left_none (Done told) is = refl

ready_by : (full : Bool) (v : State) → recover_result full v ≡ Ok true → (after_recover full v).recovery ≡ None
ready_by full v is = go full v.recovery is
  where
    go : (f : Bool) (o : Option Recovery) → recover_result_with f v o ≡ Ok true → (recover_with f v o).recovery ≡ None
    go f None is = absurd (cc (is))
    go true (Some r) is = absurd (cc (is))
    go false (Some r) is =
        left_none (next_recovery (machine v) r) (let e : is_ready (next_recovery (machine v) r) ≡ true = cc (is) in e)

module _ (old new : Brokered) (result : Result Bool Refusal) (well : IsWell old) (has : HasRoomToRecover old) where
  creation_still : (o : Option BrokerRecovery) → new.creation ≡ creation_after old.creation o → new.creation ≡ None
  creation_still None is = is
  creation_still (Some r) is = is ∙ has.creation

  -- the directory is read
  room_read : (from : DirectoryRecovery) → IsDirectoryRead old new from result → HasRoomToRecover new
  room_read from read = record {
    creation = by_next (found_by old from).after read.next;
    room = λ at w here down. room_beside old new has at (alike (found_by old from).opened read.found at) (read.rooms at) w here down;
  }
    where
      by_next : (a : After DirectoryRecovery Directory) → IsReadOn old new a → new.creation ≡ None
      by_next (More next) on = on.1 ∙ has.creation
      by_next (Done places) on = creation_still new.recovery on.2

      by_world : (slot : SlotId) (o : Option State) → IsFoundIn old new slot o → (at : ℕ)
          → quiet (world_at new at) ≡ quiet (world_at old at)
      by_world slot (Some w) known at = known.worlds at
      by_world slot None first at = absurd (cc (first.dropped, has.creation))

      alike : (opened : Option SlotId) → IsFound old new opened → (at : ℕ)
          → quiet (world_at new at) ≡ quiet (world_at old at)
      alike None known at = known.worlds at
      alike (Some slot) found at = by_world slot (world_at old slot.0) found at

  -- a queue recovers: it had room
  module _ (slot : SlotId) (turn : old.recovery ≡ Some (RecoverQueue slot))
      (step : IsQueueRecovered old new slot.0 result) where
    had_room : 1 ≤ room_at old slot.0
    had_room = go (world_at old slot.0) refl
      where
        go : (o : Option State) → world_at old slot.0 ≡ o → 1 ≤ room_at old slot.0
        go None there =
            let it = its_queue old well slot turn in
            absurd (cc (listed_open old slot.0 it.queue well it.has, there))
        go (Some w) there = has.room slot.0 w there (waits_there old well slot turn w there)

    not_full : is_no_memory result ≡ true → ⊥
    not_full full = let room = had_room in let none = step.full full in omega (arith, room, none)

    -- and has it still, unless it is ready by this step
    same_turn : (answer : Result Bool Refusal) → IsQueueOn old new slot.0 result answer → (answer ≡ Ok true → ⊥)
        → new.recovery ≡ old.recovery
    same_turn (Err e) on over = on.1
    same_turn (Ok false) on over = on.1
    same_turn (Ok true) on over = absurd (over refl)

    room_here : (w : State) → world_at new slot.0 ≡ Some w → IsSome w.recovery → 1 ≤ room_at new slot.0
    room_here w here down = go (world_at old slot.0) step.world step.next
      where
        go : (o : Option State) → world_at new slot.0 ≡ acted (after_recover (is_no_memory result)) o
            → IsQueueOn old new slot.0 result (answered (recover_result (is_no_memory result)) o) → 1 ≤ room_at new slot.0
        go None is on = absurd (cc (is, here))
        go (Some v) is on =
            let same : after_recover (is_no_memory result) v ≡ w = cc (is, here) in
            let goes_on : recover_result (is_no_memory result) v ≡ Ok true → ⊥ = λ over.
            let none : w.recovery ≡ None =
            ap (λ (x : State). x.recovery) (sym same) ∙ ready_by (is_no_memory result) v over in
            absurd (cc (down, none)) in
            let before = had_room in
            let more = step.stays (same_turn (recover_result (is_no_memory result) v) on goes_on) in
            omega (arith, before, more)

    creation_next : (answer : Result Bool Refusal) → IsQueueOn old new slot.0 result answer → new.creation ≡ None
    creation_next (Err e) on = on.2 ∙ has.creation
    creation_next (Ok false) on = on.2 ∙ has.creation
    creation_next (Ok true) on = creation_still new.recovery on.2

    room_recovered : HasRoomToRecover new
    room_recovered = record {
      creation = creation_next _ step.next;
      room = λ at w here down. elim (cases_eq at slot.0) [
        | inl same ↦
            subst (λ (n : ℕ). 1 ≤ room_at new n) (sym same)
            (room_here w (subst (λ (n : ℕ). world_at new n ≡ Some w) same here) down)
        | inr apart ↦
            let room = step.other_rooms at apart in
            room_beside old new has at (step.others at apart) (omega (arith, room)) w here down
      ];
    }

  pub room_after : IsRecoveryStep old new result old.recovery → HasRoomToRecover new
  room_after step = go old.recovery refl step
    where
      go : (o : Option BrokerRecovery) → old.recovery ≡ o → IsRecoveryStep old new result o → HasRoomToRecover new
      go None e same = subst HasRoomToRecover (sym same.1) has
      go (Some (ReadDirectory at)) e read = room_read at read
      go (Some (RecoverQueue slot)) e step = room_recovered slot e step

  pub never_full : IsRecoveryStep old new result old.recovery → is_no_memory result ≡ true → ⊥
  never_full step full = go old.recovery refl step
    where
      go : (o : Option BrokerRecovery) → old.recovery ≡ o → IsRecoveryStep old new result o → ⊥
      go None e same = absurd (cc (full, ap (λ (r : Result Bool Refusal). is_no_memory r) same.0))
      go (Some (ReadDirectory at)) e read = absurd (cc (full, ap (λ (r : Result Bool Refusal). is_no_memory r) read.answer))
      go (Some (RecoverQueue slot)) e step = not_full slot e step full

-- so no step of it is refused but one of a broker that is ready
pub only_ready : (result : Result Bool Refusal) → IfErr result IsRecoveryRefusal
    → (is_no_memory result ≡ true → ⊥) → IfErr result (λ refusal. refusal ≡ AlreadyReady)
only_ready (Ok ready) errors none = tt
only_ready (Err refusal) (inl same) none = same
only_ready (Err refusal) (inr same) none =
    absurd (none (ap (λ (e : Refusal). let r : Result Bool Refusal = Err e in is_no_memory r) same))
