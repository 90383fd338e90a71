-- A session stays right while queues are created and histories end.
use Rattle.std.proofs.Common.{◌≡◌, ◌≢◌, ◌⊎◌, inl, inr, ℕ, Bool, true, false, is_some, ◌||◌, if◌then◌else◌, List, Option, Some, None, Result, Ok, Err, slice_get, refl, sym, ap, subst, ◌∙◌}
use Rattle.std.specs.Prelude.{IfOk, IfSome, OnErr, OnOk}
use Rattle.std.specs.List.{list_any}
use Rattle.std.proofs.lemmas.Bool.{cases_eq}
use Rattle.words.specs.declared.refusal.Refusal.{Refusal}
use Rattle.words.specs.declared.refusal.Refusal.TheVariants.{Busy, Idle, NoMemory, NotReady}
use Rattle.words.specs.declared.told.Verdict.{Verdict}
use Rattle.persist.specs.Memory.{Words}
use Rattle.arena.specs.Shape.{shape_of}
use Rattle.arena.specs.declared.broker.SlotId.{SlotId}
use Rattle.stepper.specs.declared.resume.After.{After}
use Rattle.stepper.specs.declared.resume.After.TheVariants.{More, Done}
use Rattle.directory.specs.Creation.{successor}
use Rattle.directory.specs.Directory.{IsFree}
use Rattle.directory.specs.declared.creation.Creation.{Creation}
use Rattle.interleave.specs.Calls.{is_no_memory}
use Rattle.interleave.specs.Rotation.{after_rotation, rotate_result as rotate_world}
use Rattle.interleave.specs.State.{State, world_over}
use Rattle.interleave.proofs.Facts.{is_none}
use Rattle.named.specs.Blocks.{state_in}
use Rattle.named.specs.Brokers.{Brokered, IsStepCreated, IsWell, block_words, is_down, quiet, world_at, world_of}
use Rattle.named.specs.Promises.{KeepsPromises}
use Rattle.named.specs.Rotating.{IsQuietIn, IsRotated, has_calls_in, rotate_result}
use Rattle.named.specs.Slots.{acted, world_in}
use Rattle.named.specs.declared.recovery.BrokerRecovery.{BrokerRecovery}
use Rattle.named.specs.declared.slot.Slot.{Slot}
use Rattle.named.specs.declared.slot.Slot.TheVariants.{Closed, Open}
use Rattle.named.proofs.Facts.{all_quiet, closed_where_free, is_free, may_rotate, none_some}
use Rattle.session.specs.Sessions.{IsRight, IsSlotRight, Sessioned, is_up, kept_in}
use Rattle.session.specs.Keeping.{SessionGoesOn}
use Rattle.session.proofs.calls.SlotCalls.{up_is}
use Rattle.session.proofs.calls.Clients.{goes_on_kept}
use Rattle.session.proofs.downtime.Crashes.{right_quiet}
use Rattle.session.proofs.calls.Slots.{right_if_new, right_if_quiet, right_rotated}
use Rattle.session.proofs.brokers.Worlds.{holds_there, laid_out_quiet}

-- where the histories may end, nobody calls any queue
free_to : (down busy : Bool) (c : Option Creation) → Ok tt ≡ (let r : Result Unit Refusal = if down then Err NotReady
    else (if is_some c || busy then Err Busy else (if false then Err NoMemory else Ok tt)) in r)
    → (down ≡ false) × (busy ≡ false)
free_to true busy c e = absurd (cc (e))
free_to false busy (Some k) e = absurd (cc (e))
free_to false true None e = absurd (cc (e))
free_to false false None e = (refl, refl)

pub up_rotates : (b : Brokered) → rotate_result false b ≡ Ok tt → b.recovery ≡ None
up_rotates b rotates =
    is_none b.recovery (free_to (is_down b) (list_any has_calls_in b.slots) b.creation (sym rotates)).0

quiet_world : (ws : Words) (slot : Slot) (w : State) → IsQuietIn slot → world_in ws slot ≡ Some w
    → rotate_world false w ≡ Ok tt
quiet_world ws Closed w is e = absurd (none_some e)
quiet_world ws (Open block) w is e =
    let same : state_in ws block ≡ w = cc (e) in
    subst (λ (v : State). rotate_world false v ≡ Ok tt) same (may_rotate false ws block is.0 is.1)

pub world_at_rest : (b : Brokered) → IsWell b → rotate_result false b ≡ Ok tt → (at : ℕ) (w : State)
    → world_at b at ≡ Some w → rotate_world false w ≡ Ok tt
world_at_rest b well rotates at w here = go (slice_get b.slots at) refl here
  where
    nobody : list_any has_calls_in b.slots ≡ false
    nobody = (free_to (is_down b) (list_any has_calls_in b.slots) b.creation (sym rotates)).1

    go : (o : Option Slot) → slice_get b.slots at ≡ o → world_of b.words o ≡ Some w → rotate_world false w ≡ Ok tt
    go None e there = absurd (none_some there)
    go (Some s) e there = quiet_world b.words s w (all_quiet b well (up_rotates b rotates) nobody at s e).1 there

-- a step that was not refused is one of a creation that is under way
record IsCreationStepped (old new : Brokered) (opened : Option SlotId) : Type 0 where
  pub up : old.recovery ≡ None
  pub creation : Creation
  pub there : old.creation ≡ Some creation
  pub step : IsStepCreated old new creation (Ok opened) (successor creation)

creation_stepped : (old new : Brokered) (opened : Option SlotId)
    → (is_down old ≡ true → (let r : Result (Option SlotId) Refusal = Ok opened in r) ≡ Err NotReady)
    → (old.recovery ≡ None → old.creation ≡ None → (let r : Result (Option SlotId) Refusal = Ok opened in r) ≡ Err Idle)
    → (old.recovery ≡ None
    → IfSome old.creation (λ creation. IsStepCreated old new creation (Ok opened) (successor creation)))
    → IsCreationStepped old new opened
creation_stepped old new opened down idle step = go old.recovery refl old.creation refl
  where
    go : (recovery : Option BrokerRecovery) → old.recovery ≡ recovery → (creation : Option Creation)
        → old.creation ≡ creation → IsCreationStepped old new opened
    go (Some r) e creation c = absurd (cc (down (ap (λ (o : Option BrokerRecovery). is_some o) e)))
    go None e None c = absurd (cc (idle e c))
    go None e (Some creation) c = record {
      up = e;
      creation = creation;
      there = c;
      step =
          subst (λ (o : Option Creation). IfSome o (λ k. IsStepCreated old new k (Ok opened) (successor k))) c
          (step e);
    }

module _ (old new : Brokered) (kept : List (List (Option Verdict))) (right : IsRight (record { broker = old; kept = kept })) where
  abbrev before : Sessioned
  before = record { broker = old; kept = kept }

  abbrev after : Sessioned
  after = record { broker = new; kept = kept }

  -- nothing changed
  pub unchanged_right : new ≡ old → IsRight after
  unchanged_right same = subst (λ (b : Brokered). IsRight (record { broker = b; kept = kept })) (sym same) right

  -- nothing that the worlds have
  pub alike_right : IsWell new → new.recovery ≡ old.recovery → ((at : ℕ) → world_at new at ≡ world_at old at)
      → IsRight after
  alike_right well recovery worlds = right_quiet before new right well recovery (λ at. ap quiet (worlds at))

  -- a creation began, or did not
  pub created_right : (result : Result Unit Refusal) → OnOk result (KeepsPromises new) → OnErr result (new ≡ old)
      → new ≡ record old { creation = new.creation } → IsRight after
  created_right (Err refusal) well same others = unchanged_right same
  created_right (Ok u) well same others =
      alike_right well.well (ap (λ (b : Brokered). b.recovery) others) (λ at. ap (λ (b : Brokered). world_at b at) others)

  -- a free slot has no world
  none_where_free : (slot : ℕ) → IsFree old.directory slot → world_at old slot ≡ None
  none_where_free slot free = go (slice_get old.slots slot) refl
    where
      go : (o : Option Slot) → slice_get old.slots slot ≡ o → world_of old.words o ≡ None
      go None e = refl
      go (Some s) e = ap (world_in old.words) (closed_where_free s (right.well.kinds slot s None e free))

  -- a queue is new
  opened_right : (creation : Creation) (slot : SlotId) → IsWell new → old.recovery ≡ None → new.recovery ≡ None
      → IsFree old.directory slot.0
      → world_at new slot.0 ≡ Some (world_over (shape_of creation.queue.kind old.counts) (block_words old.counts slot.0 new.words))
      → ((at : ℕ) → at ≢ slot.0 → quiet (world_at new at) ≡ quiet (world_at old at)) → IsRight after
  opened_right creation slot well up still free world others = record {
    well = well;
    slots = λ at. subst (λ (b : Bool). IsSlotRight b (world_at new at) (kept_in kept at)) (sym (up_is new still)) (go at (cases_eq at slot.0));
  }
    where
      opened : State
      opened = world_over (shape_of creation.queue.kind old.counts) (block_words old.counts slot.0 new.words)

      none : (client : ℕ) → kept_in kept slot.0 client ≡ None
      none = subst (λ (o : Option State). IsSlotRight (is_up old) o (kept_in kept slot.0)) (none_where_free slot.0 free) (right.slots slot.0)

      here : IsSlotRight true (world_at new slot.0) (kept_in kept slot.0)
      here =
          subst (λ (o : Option State). IsSlotRight true o (kept_in kept slot.0)) (sym world)
          (right_if_new (shape_of creation.queue.kind old.counts) (block_words old.counts slot.0 new.words)
          (holds_there new well slot.0 _ world) (kept_in kept slot.0) none)

      go : (at : ℕ) → (at ≡ slot.0) ⊎ (at ≢ slot.0) → IsSlotRight true (world_at new at) (kept_in kept at)
      go at (inl same) = subst (λ (n : ℕ). IsSlotRight true (world_at new n) (kept_in kept n)) (sym same) here
      go at (inr apart) =
          right_if_quiet true (world_at old at) (world_at new at) (kept_in kept at) (others at apart)
          (subst (λ (b : Bool). IsSlotRight b (world_at old at) (kept_in kept at)) (up_is old up) (right.slots at))

  -- a step of a creation
  pub creation_right : (result : Result (Option SlotId) Refusal) → IsWell new
      → (is_down old ≡ true → result ≡ Err NotReady)
      → (old.recovery ≡ None → old.creation ≡ None → result ≡ Err Idle) → OnErr result (new ≡ old)
      → (old.recovery ≡ None → IfSome old.creation (λ creation. IsStepCreated old new creation result (successor creation)))
      → ((other : ℕ) → IfOk result (λ opened. IfSome opened (λ slot. other ≢ slot.0))
      → quiet (world_at new other) ≡ quiet (world_at old other)) → IsRight after
  creation_right (Err refusal) well down idle same step others = unchanged_right same
  creation_right (Ok opened) well down idle same step others =
      let its = creation_stepped old new opened down idle step in
      stepped its.up its.creation its.there (successor its.creation) refl its.step
    where
      stepped : old.recovery ≡ None → (creation : Creation) → old.creation ≡ Some creation → (a : After Creation SlotId)
          → successor creation ≡ a → IsStepCreated old new creation (Ok opened) a → IsRight after
      stepped up creation there (More next) e (answer, is) = record {
        well = well;
        slots = λ at.
            right_if_quiet (is_up new) (world_at old at) (world_at new at) (kept_in kept at)
            (others at (let none : opened ≡ None = cc (answer) in
            subst (λ (o : Option SlotId). IfSome o (λ slot. at ≢ slot.0)) (sym none) tt))
            (subst (λ (b : Bool). IsSlotRight b (world_at old at) (kept_in kept at))
            (ap (λ (b : Brokered). is_up b) (sym is)) (right.slots at));
      }
      stepped up creation there (Done slot) e (answer, is) =
          let this : opened ≡ Some slot = cc (answer) in
          opened_right creation slot well up still (is_free old creation right.well up there slot e) is.world
          (λ at apart. others at (subst (λ (o : Option SlotId). IfSome o (λ slot. at ≢ slot.0)) (sym this) apart))
        where
          still : new.recovery ≡ None
          still = is.recovery ∙ up

  -- another history for each queue
  pub rotated_right : (result : Result Unit Refusal) → IsWell new → result ≡ rotate_result (is_no_memory result) old
      → (result ≡ Ok tt → IsRotated old new) → OnErr result (new ≡ old) → IsRight after
  rotated_right (Err refusal) well answer rotated same = unchanged_right same
  rotated_right (Ok u) well answer rotated same = record {
    well = well;
    slots = λ at.
        subst (λ (b : Bool). IsSlotRight b (world_at new at) (kept_in kept at)) (sym (up_is new (ap (λ (b : Brokered). b.recovery) made.same ∙ up)))
        (subst (λ (o : Option State). IsSlotRight true o (kept_in kept at)) (sym (made.worlds at)) (each at (world_at old at) refl));
  }
    where
      made : IsRotated old new
      made = rotated refl

      up : old.recovery ≡ None
      up = up_rotates old (sym answer)

      was : (at : ℕ) → IsSlotRight true (world_at old at) (kept_in kept at)
      was at = subst (λ (b : Bool). IsSlotRight b (world_at old at) (kept_in kept at)) (up_is old up) (right.slots at)

      each : (at : ℕ) (o : Option State) → world_at old at ≡ o → IsSlotRight true (acted after_rotation o) (kept_in kept at)
      each at None e = subst (λ (o : Option State). IsSlotRight true o (kept_in kept at)) e (was at)
      each at (Some w) e =
          right_rotated false w (holds_there old right.well at w e) (world_at_rest old right.well (sym answer) at w e) (kept_in kept at)
          (subst (λ (o : Option State). IsSlotRight true o (kept_in kept at)) e (was at))

  -- numbers that were answered stay so: no queue is taken away
  pub creation_on : (result : Result (Option SlotId) Refusal) → (is_down old ≡ true → result ≡ Err NotReady)
      → (old.recovery ≡ None → old.creation ≡ None → result ≡ Err Idle) → OnErr result (new ≡ old)
      → (old.recovery ≡ None → IfSome old.creation (λ creation. IsStepCreated old new creation result (successor creation)))
      → ((other : ℕ) → IfOk result (λ opened. IfSome opened (λ slot. other ≢ slot.0))
      → quiet (world_at new other) ≡ quiet (world_at old other)) → SessionGoesOn before after
  creation_on (Err refusal) down idle same step others =
      subst (λ (b : Brokered). SessionGoesOn before (record { broker = b; kept = kept })) (sym same)
      (record { clients = λ at client is. is; answers = λ at client number reply is answered. answered })
  creation_on (Ok opened) down idle same step others =
      goes_on_kept before after refl (λ at w there.
      laid_out_quiet w (world_at new at) (others at (apart at w there) ∙ ap quiet there))
    where
      stepped : old.recovery ≡ None → (creation : Creation) → old.creation ≡ Some creation → (a : After Creation SlotId)
          → successor creation ≡ a → IsStepCreated old new creation (Ok opened) a → (at : ℕ) (w : State)
          → world_at old at ≡ Some w → IfSome opened (λ slot. at ≢ slot.0)
      stepped up creation there (More next) e (answer, is) at w here =
          let none : opened ≡ None = cc (answer) in subst (λ (o : Option SlotId). IfSome o (λ slot. at ≢ slot.0)) (sym none) tt
      stepped up creation there (Done slot) e (answer, is) at w here =
          let this : opened ≡ Some slot = cc (answer) in
          subst (λ (o : Option SlotId). IfSome o (λ slot. at ≢ slot.0)) (sym this)
          (λ same. none_some
          (sym (none_where_free slot.0 (is_free old creation right.well up there slot e)) ∙ ap (world_at old) (sym same) ∙ here))

      apart : (at : ℕ) (w : State) → world_at old at ≡ Some w → IfSome opened (λ slot. at ≢ slot.0)
      apart =
          let its = creation_stepped old new opened down idle step in
          stepped its.up its.creation its.there (successor its.creation) refl its.step
