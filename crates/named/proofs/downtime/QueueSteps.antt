-- A step of recovery of the queue in a slot, and what comes once that is ready.
use Rattle.std.proofs.Common.{◌≡◌, ℕ, ◌+◌, ◌<◌, ◌≤◌, ◌⊎◌, inl, inr, Bool, true, false, not, List, Option, Some, None, Result, Ok, Err, slice_get, slice_set, refl, sym, ap, ◌∙◌, subst, arith}
use Rattle.std.specs.Prelude.{IfErr, is_none, is_some, nat_lt}
use Rattle.std.proofs.lemmas.Bool.{cases_eq, le-ltb, lt-ltb, ltb-false}
use Rattle.std.proofs.lemmas.Option.{slice_get_within}
use Rattle.words.specs.declared.refusal.Refusal.{Refusal}
use Rattle.arena.specs.declared.broker.SlotId.{SlotId}
use Rattle.words.specs.declared.told.Told.{Told}
use Rattle.persist.specs.Memory.{Words}
use Rattle.stepper.specs.declared.resume.After.{After}
use Rattle.stepper.specs.declared.resume.After.TheVariants.{More, Done}
use Rattle.directory.specs.UnderWay.{IsAtRest}
use Rattle.directory.proofs.Facts.{head_moves}
use Rattle.protocol.specs.Machine.{next_recovery, recovery_left}
use Rattle.recover.specs.declared.recovery.Recovery.{Recovery}
use Rattle.interleave.specs.Calls.{is_no_memory}
use Rattle.interleave.specs.State.{State, after_recover, is_ready, machine, recover_result, recover_result_with}
use Rattle.interleave.specs.State.{recover_with}
use Rattle.interleave.proofs.Facts.{get_set, told_at_ready}
use Rattle.named.specs.Blocks.{BlockState, state_in}
use Rattle.named.specs.Brokers.{Brokered, IsDirectoryAt, IsRecoveringQueue, IsWell, is_ready_at, room_at, room_of}
use Rattle.named.specs.Brokers.{with_slot, world_at}
use Rattle.named.specs.Slots.{IsReadyIn, IsSameOutsideSlot, IsSameSlot, IsSlotWell, IfWorld, acted, answered, room_in}
use Rattle.named.specs.Slots.{world_in}
use Rattle.named.specs.Stopping.{HasFullQueue, IsNext, IsQueueOn, IsQueueRecovered, creation_after}
use Rattle.named.specs.declared.recovery.BrokerRecovery.{BrokerRecovery}
use Rattle.named.specs.declared.recovery.BrokerRecovery.TheVariants.{RecoverQueue}
use Rattle.named.specs.declared.slot.Slot.{Slot}
use Rattle.named.specs.declared.slot.Slot.TheVariants.{Closed, Open}
use Rattle.named.proofs.acts.OneSlot.{directory_stays, get_set_other, kinds_now, length_set, others_stay, readiness_now}
use Rattle.named.proofs.acts.OneSlot.{room_now, same_directory, slot_is_well, slots_now, some_is, world_now, world_was}
use Rattle.interleave.specs.Telling.{IsToldAtReady}
use Rattle.named.specs.Telling.{TellAtReady}
use Rattle.named.specs.Lasting.{left_at, left_in, most_from, steps_left}
use Rattle.named.proofs.creations.Beginnings.{listed_open}
use Rattle.named.proofs.downtime.StepsLeft.{few_next, slot_falls}
use Rattle.named.proofs.downtime.Nexts.{no_world, ready_next, rest_next}

-- whether the queue is ready once a step answered this
abbrev pub ready_by : Result Bool Refusal → Bool
ready_by (Ok ready) = ready
ready_by (Err refusal) = false

left_ready : (next : After Recovery (List Told)) → is_some (recovery_left next) ≡ not (is_ready next)
left_ready (More r) = refl
left_ready (Done told) = refl

world_recovers : (full : Bool) (w : State) → is_some w.recovery ≡ true → is_some (after_recover full w).recovery ≡ not (ready_by (recover_result full w))
world_recovers full w down = go w.recovery refl down full
  where
    go : (o : Option Recovery) → w.recovery ≡ o → is_some o ≡ true → (f : Bool) → is_some (recover_with f w o).recovery ≡ not (ready_by (recover_result_with f w o))
    go None e some f = absurd (cc)
    go (Some r) e some true = ap is_some e
    go (Some r) e some false = left_ready (next_recovery (machine w) r)

block_recovers : (full : Bool) (old new : Words) (was is : BlockState) → is_some was.core.trace.recovery ≡ true
    → Some (state_in new is) ≡ Some (after_recover full (state_in old was)) → (r : Result Bool Refusal) → r ≡ recover_result full (state_in old was)
    → is_some is.core.trace.recovery ≡ not (ready_by r)
block_recovers full old new was is down world r result =
    ap (λ (v : State). is_some v.recovery) (some_is (Some (state_in new is)) (state_in new is) (after_recover full (state_in old was)) refl world)
    ∙ world_recovers full (state_in old was) down ∙ ap (λ (x : Result Bool Refusal). not (ready_by x)) (sym result)

slot_recovers : (full : Bool) (old new : Words) (was is : Slot) → IsSameSlot was is → IsReadyIn false was
    → world_in new is ≡ acted (after_recover full) (world_in old was) → (r : Result Bool Refusal) → r ≡ answered (recover_result full) (world_in old was)
    → IsReadyIn (ready_by r) is
slot_recovers full old new Closed Closed place down world r result = tt
slot_recovers full old new (Open was) (Open is) place down world r result = block_recovers full old new was is down world r result
slot_recovers full old new Closed (Open is) place down world r result = absurd place
slot_recovers full old new (Open was) Closed place down world r result = absurd place

-- what a step of the queue's recovery uses up of the room in its history: a place at most, and none where it is refused
-- or the queue is not ready yet
pub record HasSpent (was is : Slot) (r : Result Bool Refusal) : Type 0 where
  pub full : is_no_memory r ≡ true → room_in was ≡ 0
  pub room : room_in was ≤ room_in is + 1
  pub spare : IfErr r (λ e. room_in was ≤ room_in is)
  pub stays : r ≡ Ok false → room_in was ≤ room_in is

spent_yet : (was is : Slot) (r : Result Bool Refusal) → HasSpent was is r → ready_by r ≡ false → room_in was ≤ room_in is
spent_yet was is (Err refusal) spent yet = spent.spare
spent_yet was is (Ok false) spent yet = spent.stays refl
spent_yet was is (Ok true) spent yet = absurd (cc)

-- the queue that recovers is in a slot that there is
pub its_queue : (b : Brokered) → IsWell b → (slot : SlotId) → b.recovery ≡ Some (RecoverQueue slot) → IsRecoveringQueue b.words b.directory slot.0
its_queue b holds slot is = subst (λ (r : Option BrokerRecovery). IsDirectoryAt b.words r b.creation b.directory) is holds.directory

pub its_slot : (b : Brokered) → IsWell b → (slot : SlotId) → b.recovery ≡ Some (RecoverQueue slot) → slot.0 < 8
its_slot b holds slot is =
    let it = its_queue b holds slot is in
    omega (arith, slice_get_within b.directory slot.0 (Some it.queue) it.has, holds.listed.count)

module _ (b : Brokered) (slot : SlotId) (was is : Slot) (ws : Words) (holds : IsWell b) (here : slice_get b.slots slot.0 ≡ Some was)
    (well : IsSlotWell ws is) (outside : IsSameOutsideSlot was b.words ws) (place : IsSameSlot was is) (turn : b.recovery ≡ Some (RecoverQueue slot))
    (r : Result Bool Refusal) (world : world_in ws is ≡ acted (after_recover (is_no_memory r)) (world_in b.words was))
    (result : r ≡ answered (recover_result (is_no_memory r)) (world_in b.words was)) where
  -- the queues below are ready, and the others are not
  ready_was : (j : ℕ) (s : Slot) → slice_get b.slots j ≡ Some s → IsReadyIn (nat_lt j slot.0) s
  ready_was j s e = subst (λ (o : Option BrokerRecovery). IsReadyIn (is_ready_at o j) s) turn (holds.readiness j s e)

  ready_below : (j : ℕ) (s : Slot) → slice_get b.slots j ≡ Some s → j < slot.0 → IsReadyIn true s
  ready_below j s e less = subst (λ (x : Bool). IsReadyIn x s) (lt-ltb j slot.0 less) (ready_was j s e)

  waits_above : (j : ℕ) (s : Slot) → slice_get b.slots j ≡ Some s → slot.0 ≤ j → IsReadyIn false s
  waits_above j s e past = subst (λ (x : Bool). IsReadyIn x s) (le-ltb j slot.0 past) (ready_was j s e)

  ready_here : IsReadyIn (ready_by r) is
  ready_here = slot_recovers (is_no_memory r) b.words ws was is place (waits_above slot.0 was here (omega arith)) world r result

  world_here : world_at (with_slot b slot.0 is ws) slot.0 ≡ acted (after_recover (is_no_memory r)) (world_at b slot.0)
  world_here = world_now b slot.0 was is ws holds here well outside place ∙ world
      ∙ ap (acted (after_recover (is_no_memory r))) (sym (world_was b slot.0 was is ws holds here well outside place))

  answer_here : answered (recover_result (is_no_memory r)) (world_at b slot.0) ≡ r
  answer_here = ap (answered (recover_result (is_no_memory r))) (world_was b slot.0 was is ws holds here well outside place) ∙ sym result

  room_here : room_at b slot.0 ≡ room_in was
  room_here = ap room_of here

  room_there : room_at (with_slot b slot.0 is ws) slot.0 ≡ room_in is
  room_there = ap room_of (get_set b.slots slot.0 is (slice_get_within b.slots slot.0 was here))

  -- the queue's recovery has fewer steps left
  world_falls : (x : Bool) → r ≡ Ok x → left_in (world_at (with_slot b slot.0 is ws) slot.0) < left_in (world_at b slot.0)
  world_falls x ok =
      let it = its_queue b holds slot turn in
      let less = slot_falls (is_no_memory r) b.words was it.queue.kind r x (slot_is_well b.counts b.words slot.0 was (holds.slots slot.0 was here))
      (holds.kinds slot.0 was (Some it.queue) here it.has) result ok in
      omega (
        arith,
        less,
        ap left_in (world_now b slot.0 was is ws holds here well outside place ∙ world),
        ap left_in (world_was b slot.0 was is ws holds here well outside place),
      )

  left_before : steps_left b ≡ left_in (world_at b slot.0) + most_from b.counts b.directory (slot.0 + 1)
  left_before = ap (left_at b) turn

  pub falls_yet : (x : Bool) → r ≡ Ok x → steps_left (with_slot b slot.0 is ws) < steps_left b
  falls_yet x ok = omega (arith, world_falls x ok, left_before, ap (left_at (with_slot b slot.0 is ws)) turn)

  -- it is not ready yet
  module _ (yet : ready_by r ≡ false) where
    pub well_recovering : IsWell (with_slot b slot.0 is ws)
    well_recovering = record {
      counts = holds.counts;
      room = room_now b slot.0 was is ws holds here well outside place;
      head = head_moves b.words ws b.counts (same_directory b slot.0 was is ws holds here well outside place) holds.head;
      count = length_set b.slots slot.0 is ∙ holds.count;
      slots = slots_now b slot.0 was is ws holds here well outside place;
      listed = holds.listed;
      kinds = kinds_now b slot.0 was is ws holds here well outside place;
      directory = directory_stays b.words ws b.recovery b.creation b.directory (same_directory b slot.0 was is ws holds here well outside place) holds.directory;
      readiness = readiness_now b slot.0 was is ws holds here well outside place b.recovery
          (subst (λ (o : Option BrokerRecovery). IsReadyIn (is_ready_at o slot.0) is) (sym turn)
          (subst (λ (x : Bool). IsReadyIn x is) (yet ∙ sym (le-ltb slot.0 slot.0 (omega arith))) ready_here))
          (λ j s ne e. holds.readiness j s e);
    }

    goes_on : (x : Result Bool Refusal) → ready_by x ≡ false → IsQueueOn b (with_slot b slot.0 is ws) slot.0 x x
    goes_on (Err refusal) e = (refl, refl, refl)
    goes_on (Ok false) e = (refl, refl, refl)
    goes_on (Ok true) e = absurd (cc)

    pub recovering : HasSpent was is r → IsQueueRecovered b (with_slot b slot.0 is ws) slot.0 r
    recovering spent = record {
      counts = refl;
      directory = refl;
      directory_words = same_directory b slot.0 was is ws holds here well outside place;
      world = world_here;
      others = λ j ne. others_stay b slot.0 was is ws holds here well outside place j ne;
      full = λ e. room_here ∙ spent.full e;
      room = omega (arith, room_here, room_there, spent.room);
      stays = λ e. omega (arith, room_here, room_there, spent_yet was is r spent yet);
      other_rooms = λ j ne. ap room_of (get_set_other b.slots slot.0 is j ne);
      next = subst (IsQueueOn b (with_slot b slot.0 is ws) slot.0 r) (sym answer_here) (goes_on r yet);
    }

    -- no other is either
    pub tells_nothing : TellAtReady b (with_slot b slot.0 is ws)
    tells_nothing at before now = absurd (cc)

  -- it is ready
  module _ (ready : r ≡ Ok true) (recovery : Option BrokerRecovery) (next : IsNext b.directory (slot.0 + 1) recovery) where
    abbrev after : Brokered
    after = record (with_slot b slot.0 is ws) { recovery = recovery; creation = creation_after b.creation recovery }

    rest : IsAtRest ws b.directory
    rest =
        let stays : IsDirectoryAt ws b.recovery b.creation b.directory =
        directory_stays b.words ws b.recovery b.creation b.directory (same_directory b slot.0 was is ws holds here well outside place) holds.directory in
        let it : IsRecoveringQueue ws b.directory slot.0 = subst (λ (o : Option BrokerRecovery). IsDirectoryAt ws o b.creation b.directory) turn stays in
        it.rest

    is_ready_now : IsReadyIn true is
    is_ready_now = subst (λ (x : Result Bool Refusal). IsReadyIn (ready_by x) is) ready ready_here

    below : (j : ℕ) (s : Slot) → slice_get (slice_set b.slots slot.0 is) j ≡ Some s → j < slot.0 + 1 → IsReadyIn true s
    below j s e less = go (cases_eq j slot.0)
      where
        go : (j ≡ slot.0) ⊎ (j ≡ slot.0 → ⊥) → IsReadyIn true s
        go (inl same) =
            let e2 : slice_get (slice_set b.slots slot.0 is) slot.0 ≡ Some s = subst (λ n. slice_get (slice_set b.slots slot.0 is) n ≡ Some s) same e in
            subst (IsReadyIn true) (some_is _ is s (get_set b.slots slot.0 is (slice_get_within b.slots slot.0 was here)) e2) is_ready_now
        go (inr ne) = ready_below j s (sym (get_set_other b.slots slot.0 is j ne) ∙ e) (omega (arith, less, ne))

    above : (j : ℕ) (s : Slot) → slice_get (slice_set b.slots slot.0 is) j ≡ Some s → slot.0 + 1 ≤ j → IsReadyIn false s
    above j s e past = waits_above j s (sym (get_set_other b.slots slot.0 is j (λ f. absurd (omega (arith, f, past)))) ∙ e) (omega (arith, past))

    pub well_ready : IsWell after
    well_ready = record {
      counts = holds.counts;
      room = room_now b slot.0 was is ws holds here well outside place;
      head = head_moves b.words ws b.counts (same_directory b slot.0 was is ws holds here well outside place) holds.head;
      count = length_set b.slots slot.0 is ∙ holds.count;
      slots = slots_now b slot.0 was is ws holds here well outside place;
      listed = holds.listed;
      kinds = kinds_now b slot.0 was is ws holds here well outside place;
      directory = rest_next ws b.directory b.creation (slot.0 + 1) recovery rest next;
      readiness = λ j s e. ready_next (slice_set b.slots slot.0 is) b.directory (length_set b.slots slot.0 is ∙ holds.count ∙ sym holds.listed.count)
          (kinds_now b slot.0 was is ws holds here well outside place) (slot.0 + 1) recovery next j s e (below j s e) (above j s e);
    }

    -- recovery has gone on past it
    gone_on : recovery ≡ b.recovery → ⊥
    gone_on e =
        let still : IsNext b.directory (slot.0 + 1) (Some (RecoverQueue slot)) = subst (IsNext b.directory (slot.0 + 1)) (e ∙ turn) next in
        omega (arith, still.past)

    not_full : (x : Bool) → let answer : Result Bool Refusal = Ok x in is_no_memory answer ≡ true → ⊥
    not_full x e = absurd (cc)

    pub recovered : HasSpent was is r → IsQueueRecovered b after slot.0 (Ok (is_none recovery))
    recovered spent = record {
      counts = refl;
      directory = refl;
      directory_words = same_directory b slot.0 was is ws holds here well outside place;
      world = subst (λ (x : Result Bool Refusal). world_at (with_slot b slot.0 is ws) slot.0 ≡ acted (after_recover (is_no_memory x)) (world_at b slot.0)) ready world_here;
      others = λ j ne. others_stay b slot.0 was is ws holds here well outside place j ne;
      full = λ e. absurd (not_full (is_none recovery) e);
      room = omega (arith, room_here, room_there, spent.room);
      stays = λ e. absurd (gone_on e);
      other_rooms = λ j ne. ap room_of (get_set_other b.slots slot.0 is j ne);
      next = subst (IsQueueOn b after slot.0 (Ok (is_none recovery)))
          (sym (subst (λ (x : Result Bool Refusal). answered (recover_result (is_no_memory x)) (world_at b slot.0) ≡ x) ready answer_here)) (refl, next, refl);
    }

    tells_slot : (s : Slot) → IsSlotWell b.words s → r ≡ answered (recover_result (is_no_memory r)) (world_in b.words s)
        → IfWorld (acted (after_recover (is_no_memory r)) (world_in b.words s)) IsToldAtReady
    tells_slot Closed holding e = tt
    tells_slot (Open block) holding e = told_at_ready (is_no_memory r) (state_in b.words block) holding.holds (sym e ∙ ready)

    pub tells_ready : TellAtReady b after
    tells_ready at before now = go (cases_eq at slot.0)
      where
        go : (at ≡ slot.0) ⊎ (at ≡ slot.0 → ⊥) → IfWorld (world_at after at) IsToldAtReady
        go (inl same) = subst (λ n. IfWorld (world_at after n) IsToldAtReady) (sym same)
            (subst (λ (o : Option State). IfWorld o IsToldAtReady) (sym (world_now b slot.0 was is ws holds here well outside place ∙ world))
            (tells_slot was (slot_is_well b.counts b.words slot.0 was (holds.slots slot.0 was here)) result))
        go (inr ne) =
            let later : slot.0 ≤ at = ltb-false at slot.0 (subst (λ (o : Option BrokerRecovery). is_ready_at o at ≡ false) turn before) in
            subst (λ (o : Option State). IfWorld o IsToldAtReady)
            (sym (no_world (slice_set b.slots slot.0 is) b.directory (length_set b.slots slot.0 is ∙ holds.count ∙ sym holds.listed.count)
            (kinds_now b slot.0 was is ws holds here well outside place) ws (slot.0 + 1) recovery next at (omega (arith, later, ne)) now)) tt

    pub falls_ready : steps_left after < steps_left b
    falls_ready = omega (arith, few_next after well_ready (slot.0 + 1) recovery next, world_falls true ready, left_before)

-- a queue whose step is refused for want of memory has no room
pub full_here : (b : Brokered) (holds : IsWell b) (slot : SlotId) (turn : b.recovery ≡ Some (RecoverQueue slot)) (was : Slot) → slice_get b.slots slot.0 ≡ Some was
    → room_in was ≡ 0 → HasFullQueue b
full_here b holds slot turn was here full =
    let it = its_queue b holds slot turn in
    record { slot = slot.0; is_open = listed_open b slot.0 it.queue holds it.has; full = ap room_of here ∙ full }
