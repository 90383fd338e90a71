use Rattle.std.proofs.Common.{◌≡◌, ◌≤◌, ◌<◌, length, slice_get, slice_set, Some, OnOk, IfErr, Option, refl, ap, sym, subst, ◌∙◌, arith}
use Rattle.std.specs.Prelude.{IsSome}
use Rattle.std.proofs.lemmas.Option.{slice_get_read}
use Rattle.interleave.specs.State.{State}
use Rattle.named.specs.BrokerView.{broker_view}
use Rattle.named.specs.Slots.{IsWhyUnread, world_in}
use Rattle.named.specs.declared.slot.Slot.{Slot}
use Rattle.named.specs.Brokers.{Brokered, room_at, room_of, world_at, world_of}
use Rattle.named.proofs.acts.Continuity.{same_goes_on, broker_stays}
use Rattle.named.proofs.acts.OneSlot.{get_set_other, slot_is_well, still_well}
use Rattle.named.proofs.histories.Reservations.{few, room_here, rooms_kept, same_outside, slot_reserved, worlds_same}
use Rattle.named.proofs.acts.Requests.{same_asked}
use Rattle.named.proofs.promises.Promises.{promises_kept, promises_well}
use Rattle.named.proofs.broker.Broker.reserve.Goals as goal

pub reserve-requires : goal.reserve-requires
reserve-requires c =
    let below : c.args.slot.0 < length c.self.inside.slots.items = omega (arith, c.if-slot-len.false, c.len.ensures, c.self.inside.slots.ok.0) in
    let here : slice_get c.self.inside.slots.items c.args.slot.0 ≡ Some c.index_mut.result.now = slice_get_read c.self.inside.slots.items (length c.self.inside.slots.items) c.args.slot.0 c.index_mut.result.now refl below c.index_mut.ensures.value in
    few c.self.inside.memory.words c.index_mut.result.now (slot_is_well c.self.inside.layout c.self.inside.memory.words c.args.slot.0 c.index_mut.result.now (c.self.invariant.well.slots c.args.slot.0 c.index_mut.result.now here))

pub invariant_of-self : goal.invariant_of-self
invariant_of-self c =
    let below : c.args.slot.0 < length c.self.inside.slots.items = omega (arith, c.if-slot-len.false, c.len.ensures, c.self.inside.slots.ok.0) in
    let here : slice_get c.self.inside.slots.items c.args.slot.0 ≡ Some c.index_mut.result.now = slice_get_read c.self.inside.slots.items (length c.self.inside.slots.items) c.args.slot.0 c.index_mut.result.now refl below c.index_mut.ensures.value in
    let b : Brokered = broker_view c.self.inside in
    let well = slot_reserved c.self.inside.memory.words c.index_mut.result.now c.reserve.new.self (slot_is_well c.self.inside.layout c.self.inside.memory.words c.args.slot.0 c.index_mut.result.now (c.self.invariant.well.slots c.args.slot.0 c.index_mut.result.now here)) c.reserve.ensures.same (c.reserve.ensures.world c.self.inside.memory.words) in
    record {
      well = still_well b c.args.slot.0 c.index_mut.result.now c.reserve.new.self c.self.inside.memory.words c.self.invariant.well here well (same_outside c.self.inside.memory.words c.index_mut.result.now) c.reserve.ensures.same c.reserve.ensures.as_ready;
      slots = λ at. same_asked b.counts c.self.inside.memory at (world_at b at) _ (worlds_same b c.args.slot.0 c.index_mut.result.now c.reserve.new.self here (c.reserve.ensures.world c.self.inside.memory.words) at) (c.self.invariant.slots at);
      creation = c.self.invariant.creation;
    }

pub returns-clause-worlds : goal.returns-clause-worlds
returns-clause-worlds c = λ at.
    let below : c.args.slot.0 < length c.self.inside.slots.items = omega (arith, c.if-slot-len.false, c.len.ensures, c.self.inside.slots.ok.0) in
    let here : slice_get c.self.inside.slots.items c.args.slot.0 ≡ Some c.index_mut.result.now = slice_get_read c.self.inside.slots.items (length c.self.inside.slots.items) c.args.slot.0 c.index_mut.result.now refl below c.index_mut.ensures.value in
    let b : Brokered = broker_view c.self.inside in
    worlds_same b c.args.slot.0 c.index_mut.result.now c.reserve.new.self here (c.reserve.ensures.world c.self.inside.memory.words) at ∙ ap (λ (x : Brokered). world_at x at) c.self.view_is

pub returns-clause-room : goal.returns-clause-room
returns-clause-room c =
    let below : c.args.slot.0 < length c.self.inside.slots.items = omega (arith, c.if-slot-len.false, c.len.ensures, c.self.inside.slots.ok.0) in
    let here : slice_get c.self.inside.slots.items c.args.slot.0 ≡ Some c.index_mut.result.now = slice_get_read c.self.inside.slots.items (length c.self.inside.slots.items) c.args.slot.0 c.index_mut.result.now refl below c.index_mut.ensures.value in
    let b : Brokered = broker_view c.self.inside in
    subst (λ n. OnOk c.reserve.result (c.args.acts ≤ n)) (sym (room_here b c.args.slot.0 c.index_mut.result.now c.reserve.new.self here)) c.reserve.ensures.room

pub returns-clause-kept : goal.returns-clause-kept
returns-clause-kept c = λ at.
    let below : c.args.slot.0 < length c.self.inside.slots.items = omega (arith, c.if-slot-len.false, c.len.ensures, c.self.inside.slots.ok.0) in
    let here : slice_get c.self.inside.slots.items c.args.slot.0 ≡ Some c.index_mut.result.now = slice_get_read c.self.inside.slots.items (length c.self.inside.slots.items) c.args.slot.0 c.index_mut.result.now refl below c.index_mut.ensures.value in
    let b : Brokered = broker_view c.self.inside in
    subst (λ n. n ≤ room_of (slice_get (slice_set c.self.inside.slots.items c.args.slot.0 c.reserve.new.self) at)) (ap (λ (x : Brokered). room_at x at) c.self.view_is)
    (rooms_kept b c.args.slot.0 c.index_mut.result.now c.reserve.new.self here c.reserve.ensures.kept at)

pub returns-clause-other_rooms : goal.returns-clause-other_rooms
returns-clause-other_rooms c = λ other ne.
    ap room_of (get_set_other c.self.inside.slots.items c.args.slot.0 c.reserve.new.self other ne)
    ∙ ap (λ (x : Brokered). room_at x other) c.self.view_is

pub returns-clause-open : goal.returns-clause-open
returns-clause-open c =
    let below : c.args.slot.0 < length c.self.inside.slots.items = omega (arith, c.if-slot-len.false, c.len.ensures, c.self.inside.slots.ok.0) in
    let here : slice_get c.self.inside.slots.items c.args.slot.0 ≡ Some c.index_mut.result.now = slice_get_read c.self.inside.slots.items (length c.self.inside.slots.items) c.args.slot.0 c.index_mut.result.now refl below c.index_mut.ensures.value in
    let world : world_in c.self.inside.memory.words c.index_mut.result.now ≡ world_at c.args.self.now c.args.slot.0 = sym (ap (world_of c.self.inside.memory.words) here) ∙ ap (λ (x : Brokered). world_at x c.args.slot.0) c.self.view_is in
    subst (λ (o : Option State). OnOk c.reserve.result (IsSome o)) world (c.reserve.ensures.open c.self.inside.memory.words)

pub returns-clause-errors : goal.returns-clause-errors
returns-clause-errors c =
    let below : c.args.slot.0 < length c.self.inside.slots.items = omega (arith, c.if-slot-len.false, c.len.ensures, c.self.inside.slots.ok.0) in
    let here : slice_get c.self.inside.slots.items c.args.slot.0 ≡ Some c.index_mut.result.now = slice_get_read c.self.inside.slots.items (length c.self.inside.slots.items) c.args.slot.0 c.index_mut.result.now refl below c.index_mut.ensures.value in
    let world : world_in c.self.inside.memory.words c.index_mut.result.now ≡ world_at c.args.self.now c.args.slot.0 = sym (ap (world_of c.self.inside.memory.words) here) ∙ ap (λ (x : Brokered). world_at x c.args.slot.0) c.self.view_is in
    subst (λ (o : Option State). IfErr c.reserve.result (IsWhyUnread o)) world (c.reserve.ensures.errors c.self.inside.memory.words)

pub returns-then-slot-len-clause-promises : goal.returns-then-slot-len-clause-promises
returns-then-slot-len-clause-promises c = promises_kept _ _ c.self.invariant.well c.self.view_is

pub returns-clause-promises : goal.returns-clause-promises
returns-clause-promises c = promises_well _ (invariant_of-self c).well

pub returns-clause-goes_on : goal.returns-clause-goes_on
returns-clause-goes_on c =
    let b : Brokered = broker_view c.self.inside in
    let new : Brokered = record b { slots = slice_set b.slots c.args.slot.0 c.reserve.new.self } in
    same_goes_on c.args.self.now new (ap (λ (x : Brokered). x.counts) c.self.view_is) (ap (λ (x : Brokered). x.directory) c.self.view_is) (returns-clause-worlds c)

pub returns-then-slot-len-clause-goes_on : goal.returns-then-slot-len-clause-goes_on
returns-then-slot-len-clause-goes_on c = broker_stays _

pub returns-then-slot-len-clause-worlds : goal.returns-then-slot-len-clause-worlds
returns-then-slot-len-clause-worlds c = λ at. refl

pub returns-then-slot-len-clause-room : goal.returns-then-slot-len-clause-room
returns-then-slot-len-clause-room c = tt

pub returns-then-slot-len-clause-kept : goal.returns-then-slot-len-clause-kept
returns-then-slot-len-clause-kept c = λ at. omega arith

pub returns-then-slot-len-clause-other_rooms : goal.returns-then-slot-len-clause-other_rooms
returns-then-slot-len-clause-other_rooms c = λ _ _. refl

pub returns-then-slot-len-clause-full : goal.returns-then-slot-len-clause-full
returns-then-slot-len-clause-full c = λ no. absurd (cc (no))

pub returns-then-slot-len-clause-open : goal.returns-then-slot-len-clause-open
returns-then-slot-len-clause-open c = tt

pub returns-then-slot-len-clause-directory : goal.returns-then-slot-len-clause-directory
returns-then-slot-len-clause-directory c = refl

pub returns-then-slot-len-clause-creation : goal.returns-then-slot-len-clause-creation
returns-then-slot-len-clause-creation c = refl

pub returns-then-slot-len-clause-recovery : goal.returns-then-slot-len-clause-recovery
returns-then-slot-len-clause-recovery c = refl

pub returns-then-slot-len-clause-words : goal.returns-then-slot-len-clause-words
returns-then-slot-len-clause-words c = refl

pub returns-clause-full : goal.returns-clause-full
returns-clause-full c = λ no.
    let below : c.args.slot.0 < length c.self.inside.slots.items = omega (arith, c.if-slot-len.false, c.len.ensures, c.self.inside.slots.ok.0) in
    let here : slice_get c.self.inside.slots.items c.args.slot.0 ≡ Some c.index_mut.result.now = slice_get_read c.self.inside.slots.items (length c.self.inside.slots.items) c.args.slot.0 c.index_mut.result.now refl below c.index_mut.ensures.value in
    subst (λ (x : Brokered). room_at x c.args.slot.0 < c.args.acts) c.self.view_is (subst (λ (o : Option Slot). room_of o < c.args.acts) (sym here) (c.reserve.ensures.full no))

pub returns-clause-directory : goal.returns-clause-directory
returns-clause-directory c = ap (λ (x : Brokered). x.directory) c.self.view_is

pub returns-clause-creation : goal.returns-clause-creation
returns-clause-creation c = ap (λ (x : Brokered). x.creation) c.self.view_is

pub returns-clause-recovery : goal.returns-clause-recovery
returns-clause-recovery c = ap (λ (x : Brokered). x.recovery) c.self.view_is

pub returns-clause-words : goal.returns-clause-words
returns-clause-words c = ap (λ (x : Brokered). x.words) c.self.view_is
