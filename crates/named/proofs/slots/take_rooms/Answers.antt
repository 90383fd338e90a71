use Rattle.std.proofs.Common.{◌≡◌, ◌∙◌, ◌<◌, Some, ap, sym, length, slice_get, slice_index_or, refl, arith}
use Rattle.std.proofs.lemmas.Option.{slice_get_read, slice_get_within}
use Rattle.named.specs.Each.{HasOtherRoom}
use Rattle.named.specs.Slots.{HasRoomFor}
use Rattle.named.specs.declared.slot.Slot.{Slot}
use Rattle.named.proofs.acts.Loops.{all_of_them, each_more, none_yet, one_more}
use Rattle.named.proofs.slots.take_rooms.Goals as goal

pub loop-slot-preserved : goal.loop-slot-preserved
loop-slot-preserved c =
    let below : c.loop-slot.slot-index < length c.loop-slot.slots = omega (arith, c.loop-slot-test.true, c.loop-slot.invariant.0.count) in
    let was : Slot = slice_index_or c.loop-slot.slots c.loop-slot.slot-index c.slot-item.result in
    let here : slice_get c.loop-slot.slots c.loop-slot.slot-index ≡ Some was = slice_get_read c.loop-slot.slots (length c.loop-slot.slots) c.loop-slot.slot-index c.slot-item.result refl below c.slot-item.is ∙ ap Some c.slot-item.is in (
      one_more HasOtherRoom c.loop-slot.slot-index c.args.slots.now c.loop-slot.slots was c.take_room.new.self c.loop-slot.invariant.0 here c.take_room.ensures.same,
      each_more (HasRoomFor c.args.acts) c.loop-slot.slot-index c.loop-slot.slots c.take_room.new.self below c.loop-slot.invariant.1 c.take_room.ensures.room,
    )

pub returns-clause-same : goal.returns-clause-same
returns-clause-same c =
    all_of_them HasOtherRoom c.loop-slot.slot-index c.args.slots.now c.loop-slot.slots c.loop-slot.invariant.0 (omega (arith, c.loop-slot-test.false, c.loop-slot.invariant.0.count))

pub returns-clause-room : goal.returns-clause-room
returns-clause-room c = λ at slot here.
    c.loop-slot.invariant.1 at slot (omega (arith, slice_get_within c.loop-slot.slots at slot here, c.loop-slot-test.false, c.loop-slot.invariant.0.count)) here

pub take_room-requires-clause-empty : goal.take_room-requires-clause-empty
take_room-requires-clause-empty c =
    let below : c.loop-slot.slot-index < length c.loop-slot.slots = omega (arith, c.loop-slot-test.true, c.loop-slot.invariant.0.count) in
    let was : Slot = slice_index_or c.loop-slot.slots c.loop-slot.slot-index c.slot-item.result in
    let here : slice_get c.loop-slot.slots c.loop-slot.slot-index ≡ Some was = slice_get_read c.loop-slot.slots (length c.loop-slot.slots) c.loop-slot.slot-index c.slot-item.result refl below c.slot-item.is ∙ ap Some c.slot-item.is in
    let there : slice_get c.args.slots.now c.loop-slot.slot-index ≡ Some was = sym (c.loop-slot.invariant.0.from c.loop-slot.slot-index (omega arith)) ∙ here in
    c.requires.empty c.loop-slot.slot-index was there

pub take_room-requires-clause-room : goal.take_room-requires-clause-room
take_room-requires-clause-room c =
    let below : c.loop-slot.slot-index < length c.loop-slot.slots = omega (arith, c.loop-slot-test.true, c.loop-slot.invariant.0.count) in
    let was : Slot = slice_index_or c.loop-slot.slots c.loop-slot.slot-index c.slot-item.result in
    let here : slice_get c.loop-slot.slots c.loop-slot.slot-index ≡ Some was = slice_get_read c.loop-slot.slots (length c.loop-slot.slots) c.loop-slot.slot-index c.slot-item.result refl below c.slot-item.is ∙ ap Some c.slot-item.is in
    let there : slice_get c.args.slots.now c.loop-slot.slot-index ≡ Some was = sym (c.loop-slot.invariant.0.from c.loop-slot.slot-index (omega arith)) ∙ here in
    c.requires.room c.loop-slot.slot-index was there

pub loop-slot-init : goal.loop-slot-init
loop-slot-init c = (none_yet HasOtherRoom c.args.slots.now, λ at slot less here. absurd (omega (arith, less)))
