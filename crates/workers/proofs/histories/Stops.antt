-- What creations, crashes, recovery and rotations make of the histories.
use Rattle.std.proofs.Common.{◌≡◌, ◌≢◌, inl, inr, ◌++◌, ℕ, Bool, true, false, List, [], ◌∷◌, Option, Some, None, Result}
use Rattle.std.proofs.Common.{Ok, Err, IfOk, IfSome, slice_get, refl, sym, ap, subst, ◌∙◌}
use Rattle.std.specs.Prelude.{◌||◌, IsSome, is_some, if◌then◌else◌}
use Rattle.std.specs.List.{list_any}
use Rattle.std.proofs.lemmas.Bool.{cases_eq}
use Rattle.std.proofs.lemmas.List.{append-nil}
use Rattle.words.specs.declared.call.Client.{Client}
use Rattle.words.specs.declared.refusal.Refusal.{Refusal}
use Rattle.words.specs.declared.refusal.Refusal.TheVariants.{Busy, NoMemory, NotReady}
use Rattle.words.specs.declared.told.Told.{Told}
use Rattle.named.specs.Memory.{Words}
use Rattle.arena.specs.declared.broker.SlotId.{SlotId}
use Rattle.stepper.specs.declared.resume.After.{After}
use Rattle.stepper.specs.declared.resume.After.TheVariants.{More, Done}
use Rattle.recover.specs.declared.recovery.Recovery.{Recovery}
use Rattle.directory.specs.Creation.{successor}
use Rattle.directory.specs.Directory.{IsFree}
use Rattle.directory.specs.declared.creation.Creation.{Creation}
use Rattle.events.specs.declared.event.Event.{Event}
use Rattle.events.specs.declared.event.Event.TheVariants.{Crash as crash_event, Ready as ready_event}
use Rattle.protocol.specs.Machine.{next_recovery}
use Rattle.protocol.specs.declared.acts.Act.TheVariants.{Crash, Recover}
use Rattle.interleave.specs.Calls.{is_no_memory}
use Rattle.interleave.specs.Holds.{Holds}
use Rattle.interleave.specs.OneEvent.{ready_events, ready_events_by}
use Rattle.interleave.specs.Rotation.{after_rotation}
use Rattle.interleave.specs.State.{State, after_recover, after_stop, machine, recover_with}
use Rattle.interleave.proofs.Facts.{act_adds_one}
use Rattle.named.specs.Brokers.{Brokered, IsStepCreated, IsWell, is_down, quiet, world_at, world_of}
use Rattle.named.specs.Rotating.{IsRotated, has_calls_in, rotate_result}
use Rattle.named.specs.Slots.{acted, kind_in, world_in}
use Rattle.named.specs.Stopping.{IsFound, IsFoundIn, IsQueueRecovered, IsRecoveryStep, IsSameButRoom, IsStopped}
use Rattle.named.specs.Stopping.{found_by}
use Rattle.named.specs.declared.recovery.BrokerRecovery.{BrokerRecovery}
use Rattle.named.specs.declared.recovery.BrokerRecovery.TheVariants.{ReadDirectory, RecoverQueue}
use Rattle.named.specs.declared.slot.Slot.{Slot}
use Rattle.named.specs.declared.slot.Slot.TheVariants.{Closed, Open}
use Rattle.named.proofs.Facts.{is_free, world_holds}
use Rattle.session.specs.Promises.{KeepsNumbers}
use Rattle.session.specs.Sessions.{Sessioned}
use Rattle.workers.specs.Lists.{events_at, events_of}
use Rattle.workers.proofs.guard.Acts.{IsCarriedFor, IsCrashed, IsDownRightly}
use Rattle.workers.proofs.histories.Slots.{IsOnBy, IsSlotCarried, carried_each, goes_by_act, nothing_of, one_not_of}
use Rattle.workers.proofs.histories.Slots.{same_carried, still_down, stays_if_opened, stays_if_quiet, stays_if_same}

-- a creation that begins leaves the queues
pub created_carried : (old new : Sessioned)
    → new ≡ record old { broker = record old.broker { creation = new.broker.creation } } → (client : Client)
    → IsCarriedFor false client old new
created_carried old new others =
    same_carried old new (λ slot. ap (λ (s : Sessioned). world_at s.broker slot) others)
    (ap (λ (s : Sessioned). s.broker.recovery) others)

-- a slot that is free in the directory has no world
none_in : (ws : Words) (slot : Slot) → kind_in slot ≡ None → world_in ws slot ≡ None
none_in ws Closed e = refl
none_in ws (Open block) e = absurd (cc (e))

none_there : (b : Brokered) (slot : ℕ) → IsWell b → IsFree b.directory slot → world_at b slot ≡ None
none_there b slot well free = go (slice_get b.slots slot) refl
  where
    go : (o : Option Slot) → slice_get b.slots slot ≡ o → world_of b.words o ≡ None
    go None is = refl
    go (Some s) is = none_in b.words s (well.kinds slot s None is free)

-- a slot is what is said of it, and the others are as they were
slot_and_others : (old new : Sessioned) (client : Client) (slot : ℕ)
    → IsSlotCarried false client (world_at old.broker slot) (world_at new.broker slot)
    → ((other : ℕ) → other ≢ slot → quiet (world_at new.broker other) ≡ quiet (world_at old.broker other))
    → (at : ℕ) → IsSlotCarried false client (world_at old.broker at) (world_at new.broker at)
slot_and_others old new client slot here others at = elim (cases_eq at slot) [
  | inl same ↦
      subst (λ (n : ℕ). IsSlotCarried false client (world_at old.broker n) (world_at new.broker n)) (sym same) here
  | inr ne ↦
      nothing_of client (world_at old.broker at) (world_at new.broker at)
      (stays_if_quiet (world_at old.broker at) (world_at new.broker at) (others at ne))
]

-- all are as they were
all_quiet : (old new : Sessioned) (client : Client)
    → ((slot : ℕ) → quiet (world_at new.broker slot) ≡ quiet (world_at old.broker slot)) → (at : ℕ)
    → IsSlotCarried false client (world_at old.broker at) (world_at new.broker at)
all_quiet old new client same at =
    nothing_of client (world_at old.broker at) (world_at new.broker at)
    (stays_if_quiet (world_at old.broker at) (world_at new.broker at) (same at))

-- a step of a creation: the queue that its last one opens has no history yet
module _ (old new : Sessioned) (keeps : KeepsNumbers old) (up : old.broker.recovery ≡ None)
    (result : Result (Option SlotId) Refusal)
    (others : (other : ℕ) → IfOk result (λ opened. IfSome opened (λ slot. other ≢ slot.0))
    → quiet (world_at new.broker other) ≡ quiet (world_at old.broker other)) where
  made_carried : (creation : Creation) → old.broker.creation ≡ Some creation
      → IsStepCreated old.broker new.broker creation result (successor creation) → (client : Client)
      → IsCarriedFor false client old new
  made_carried creation is step client = go (successor creation) refl step
    where
      where_apart : (answer : Option SlotId) → result ≡ Ok answer → (other : ℕ) → IfSome answer (λ slot. other ≢ slot.0)
          → quiet (world_at new.broker other) ≡ quiet (world_at old.broker other)
      where_apart answer e other apart =
          others other
          (subst (λ (r : Result (Option SlotId) Refusal). IfOk r (λ opened. IfSome opened (λ slot. other ≢ slot.0)))
          (sym e) apart)

      go : (a : After Creation SlotId) → successor creation ≡ a
          → IsStepCreated old.broker new.broker creation result a → IsCarriedFor false client old new
      go (More next) e made =
          carried_each old new client (all_quiet old new client (λ slot. where_apart None made.0 slot tt))
          (still_down old new (ap (λ (b : Brokered). b.recovery) made.1))
      go (Done slot) e made =
          carried_each old new client
          (slot_and_others old new client slot.0
          (nothing_of client (world_at old.broker slot.0) (world_at new.broker slot.0)
          (stays_if_opened (world_at old.broker slot.0) (world_at new.broker slot.0) _
          (none_there old.broker slot.0 keeps.broker.well (is_free old.broker creation keeps.broker.well up is slot e))
          made.1.world refl))
          (where_apart (Some slot) made.0))
          (still_down old new made.1.recovery)

  pub creation_carried : IsSome old.broker.creation
      → (old.broker.recovery ≡ None → IfSome old.broker.creation
      (λ creation. IsStepCreated old.broker new.broker creation result (successor creation)))
      → (client : Client) → IsCarriedFor false client old new
  creation_carried some step = go old.broker.creation refl some (step up)
    where
      go : (o : Option Creation) → old.broker.creation ≡ o → IsSome o
          → IfSome o (λ creation. IsStepCreated old.broker new.broker creation result (successor creation))
          → (client : Client) → IsCarriedFor false client old new
      go None e none made = absurd (cc (none))
      go (Some creation) e there made = made_carried creation e made

  -- its slot was free before
  pub creation_free : IsSome old.broker.creation
      → (old.broker.recovery ≡ None → IfSome old.broker.creation
      (λ creation. IsStepCreated old.broker new.broker creation result (successor creation)))
      → (slot : SlotId) → result ≡ Ok (Some slot) → IsFree old.broker.directory slot.0
  creation_free some step slot ok = go old.broker.creation refl some (step up)
    where
      by_step : (creation : Creation) → old.broker.creation ≡ Some creation → (a : After Creation SlotId)
          → successor creation ≡ a → IsStepCreated old.broker new.broker creation result a
          → IsFree old.broker.directory slot.0
      by_step creation is (More next) e made = absurd (cc (sym made.0 ∙ ok))
      by_step creation is (Done other) e made =
          let same : other ≡ slot = cc (sym made.0 ∙ ok) in
          subst (λ (x : SlotId). IsFree old.broker.directory x.0) same
          (is_free old.broker creation keeps.broker.well up is other e)

      go : (o : Option Creation) → old.broker.creation ≡ o → IsSome o
          → IfSome o (λ creation. IsStepCreated old.broker new.broker creation result (successor creation))
          → IsFree old.broker.directory slot.0
      go None e none made = absurd (cc (none))
      go (Some creation) e there made = by_step creation e (successor creation) refl made

-- a crash comes to each history
pub crashed_carried : (old new : Sessioned) → KeepsNumbers old → IsStopped old.broker new.broker → (client : Client)
    → IsCarriedFor true client old new
crashed_carried old new keeps stopped client = carried_each old new client each (λ down. inr (refl, crashes))
  where
    each : (slot : ℕ) → IsSlotCarried true client (world_at old.broker slot) (world_at new.broker slot)
    each slot = go (world_at old.broker slot) refl (stopped.worlds slot)
      where
        go : (o : Option State) → world_at old.broker slot ≡ o → world_at new.broker slot ≡ acted after_stop o
            → IsSlotCarried true client (world_at old.broker slot) (world_at new.broker slot)
        go None there is =
            nothing_of client (world_at old.broker slot) (world_at new.broker slot)
            (stays_if_same (world_at old.broker slot) (world_at new.broker slot) (is ∙ sym there))
        go (Some w) there is =
            one_not_of client (world_at old.broker slot) (world_at new.broker slot) crash_event refl
            (goes_by_act false w Crash (crash_event ∷ []) (world_at old.broker slot) (world_at new.broker slot)
            (world_holds old.broker slot w keeps.broker.well there) there is refl)

    crashes : (slot : ℕ) → IsCrashed (events_at old.broker slot) (events_at new.broker slot)
    crashes slot = go (world_at old.broker slot) (stopped.worlds slot)
      where
        go : (o : Option State) → world_at new.broker slot ≡ acted after_stop o
            → IsCrashed (events_of o) (events_at new.broker slot)
        go None is = inl refl
        go (Some w) is = inr (ap events_of is)

-- one that is refused leaves them
pub crash_refused_carried : (old new : Sessioned) → IsSameButRoom old.broker new.broker → (client : Client)
    → IsCarriedFor false client old new
crash_refused_carried old new same =
    same_carried old new same.worlds (ap (λ (b : Brokered). b.recovery) same.same)

-- a step of a queue's recovery: its last one tells, and a Ready comes to the history
recovered_slot : (full : Bool) (w : State) (client : Client) (was now : Option State) → Holds w → was ≡ Some w
    → now ≡ Some (after_recover full w) → IsSlotCarried false client was now
recovered_slot full w client was now holds there is = go full refl w.recovery refl
  where
    on : (events : List Event) → (after_recover full w).log.events ≡ w.log.events ++ events → IsOnBy was events now
    on events adds = goes_by_act full w Recover events was now holds there is adds

    made : (f : Bool) → full ≡ f → (events : List Event) → (after_recover f w).log.events ≡ w.log.events ++ events
        → IsOnBy was events now
    made f same events adds =
        on events (ap (λ (x : Bool). (after_recover x w).log.events) same ∙ adds)

    by_told : full ≡ false → (a : After Recovery (List Told))
        → (after_recover false w).log.events ≡ w.log.events ++ ready_events a → IsSlotCarried false client was now
    by_told same (More r) adds = nothing_of client was now (made false same [] adds)
    by_told same (Done told) adds =
        one_not_of client was now (ready_event told) tt (made false same (ready_event told ∷ []) adds)

    stays : (o : Option Recovery) → (recover_with true w o).log.events ≡ w.log.events
    stays None = refl
    stays (Some r) = refl

    go : (f : Bool) → full ≡ f → (o : Option Recovery) → w.recovery ≡ o → IsSlotCarried false client was now
    go true same o e =
        nothing_of client was now (made true same [] (stays w.recovery ∙ sym (append-nil w.log.events)))
    go false same None e =
        nothing_of client was now
        (made false same []
        (act_adds_one w Recover ∙ ap (λ (r : Option Recovery). w.log.events ++ ready_events_by w r) e))
    go false same (Some r) e =
        by_told same (next_recovery (machine w) r)
        (act_adds_one w Recover ∙ ap (λ (o : Option Recovery). w.log.events ++ ready_events_by w o) e)

-- a step of recovery: a queue that it is the first to find has no history yet
module _ (old new : Sessioned) (keeps : KeepsNumbers old) (result : Result Bool Refusal) where
  found_slots : (client : Client) (opened : Option SlotId) → IsFound old.broker new.broker opened → (at : ℕ)
      → IsSlotCarried false client (world_at old.broker at) (world_at new.broker at)
  found_slots client None known = all_quiet old new client known.worlds
  found_slots client (Some slot) found = go (world_at old.broker slot.0) refl found
    where
      go : (o : Option State) → world_at old.broker slot.0 ≡ o → IsFoundIn old.broker new.broker slot o → (at : ℕ)
          → IsSlotCarried false client (world_at old.broker at) (world_at new.broker at)
      go (Some w) there known = all_quiet old new client known.worlds
      go None there first =
          slot_and_others old new client slot.0
          (nothing_of client (world_at old.broker slot.0) (world_at new.broker slot.0)
          (stays_if_opened (world_at old.broker slot.0) (world_at new.broker slot.0) _ there first.world refl))
          first.others

  recovered_slots : (client : Client) (slot : ℕ) → IsQueueRecovered old.broker new.broker slot result → (at : ℕ)
      → IsSlotCarried false client (world_at old.broker at) (world_at new.broker at)
  recovered_slots client slot step =
      slot_and_others old new client slot (go (world_at old.broker slot) refl step.world) step.others
    where
      go : (o : Option State) → world_at old.broker slot ≡ o
          → world_at new.broker slot ≡ acted (after_recover (is_no_memory result)) o
          → IsSlotCarried false client (world_at old.broker slot) (world_at new.broker slot)
      go None there is =
          nothing_of client (world_at old.broker slot) (world_at new.broker slot)
          (stays_if_same (world_at old.broker slot) (world_at new.broker slot) (is ∙ sym there))
      go (Some w) there is =
          recovered_slot (is_no_memory result) w client (world_at old.broker slot) (world_at new.broker slot)
          (world_holds old.broker slot w keeps.broker.well there) there is

  pub recovered_carried : IsRecoveryStep old.broker new.broker result old.broker.recovery → (client : Client)
      → IsCarriedFor false client old new
  recovered_carried step client = go old.broker.recovery refl step
    where
      was_down : (r : BrokerRecovery) → old.broker.recovery ≡ Some r → IsDownRightly false old new
      was_down r e down = inl (ap (λ (o : Option BrokerRecovery). is_some o) e)

      go : (o : Option BrokerRecovery) → old.broker.recovery ≡ o
          → IsRecoveryStep old.broker new.broker result o → IsCarriedFor false client old new
      go None e same =
          same_carried old new (λ slot. ap (λ (b : Brokered). world_at b slot) same.1)
          (ap (λ (b : Brokered). b.recovery) same.1) client
      go (Some (ReadDirectory at)) e read =
          carried_each old new client (found_slots client (found_by old.broker at).opened read.found)
          (was_down (ReadDirectory at) e)
      go (Some (RecoverQueue slot)) e recovered =
          carried_each old new client (recovered_slots client slot.0 recovered) (was_down (RecoverQueue slot) e)

-- the histories end by a rotation, which is made where the broker is ready
pub rotated_empty : (old new : Brokered) → IsRotated old new → (slot : ℕ) → events_at new slot ≡ []
rotated_empty old new rotated slot = go (world_at old slot) (rotated.worlds slot)
  where
    go : (o : Option State) → world_at new slot ≡ acted after_rotation o → events_of (world_at new slot) ≡ []
    go None is = ap events_of is
    go (Some w) is = ap events_of is

pub rotate_up : (full : Bool) (old new : Brokered) → rotate_result full old ≡ Ok tt → IsRotated old new
    → is_down new ≡ false
rotate_up full old new ok rotated = ap (λ (b : Brokered). is_down b) rotated.same ∙ ready (is_down old) ok
  where
    ready : (down : Bool)
        → (if down then (let r : Result Unit Refusal = Err NotReady in r)
        else (if is_some old.creation || list_any has_calls_in old.slots then Err Busy
        else (if full then Err NoMemory else Ok tt)))
        ≡ Ok tt → down ≡ false
    ready true e = absurd (cc (e))
    ready false e = refl
