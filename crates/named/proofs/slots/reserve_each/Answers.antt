use Rattle.std.proofs.Common.{◌≡◌, ◌∙◌, ◌+◌, ◌<◌, Some, ap, sym, length, slice_get, slice_index_or, slice_set, refl, arith}
use Rattle.std.proofs.lemmas.Option.{slice_get_read, slice_get_within}
use Rattle.named.specs.Each.{HasFullSlot, HasMoreRoom}
use Rattle.named.specs.Slots.{HasRoomFor}
use Rattle.named.specs.declared.slot.Slot.{Slot}
use Rattle.named.proofs.acts.Loops.{all_of_them, as_it_was, each_more, none_yet, one_more, so_many}
use Rattle.named.proofs.acts.Refused.{left, not_done, why}
use Rattle.named.proofs.slots.reserve_each.Goals as goal

pub returns-in_err-make_room-clause-same : goal.returns-in_err-make_room-clause-same
returns-in_err-make_room-clause-same c =
    let below : c.loop-slot.slot-index < length c.loop-slot.slots = omega (arith, c.loop-slot-test.true, c.loop-slot.invariant.0.count) in
    let was : Slot = slice_index_or c.loop-slot.slots c.loop-slot.slot-index c.slot-item.result in
    let here : slice_get c.loop-slot.slots c.loop-slot.slot-index ≡ Some was = slice_get_read c.loop-slot.slots (length c.loop-slot.slots) c.loop-slot.slot-index c.slot-item.result refl below c.slot-item.is ∙ ap Some c.slot-item.is in
    so_many HasMoreRoom as_it_was (c.loop-slot.slot-index + 1) c.args.slots.now (slice_set c.loop-slot.slots c.loop-slot.slot-index c.make_room.new.self)
    (one_more HasMoreRoom c.loop-slot.slot-index c.args.slots.now c.loop-slot.slots was c.make_room.new.self c.loop-slot.invariant.0 here c.make_room.ensures.same)

pub returns-in_err-make_room-clause-full : goal.returns-in_err-make_room-clause-full
returns-in_err-make_room-clause-full c =
    let below : c.loop-slot.slot-index < length c.loop-slot.slots = omega (arith, c.loop-slot-test.true, c.loop-slot.invariant.0.count) in
    let was : Slot = slice_index_or c.loop-slot.slots c.loop-slot.slot-index c.slot-item.result in
    let here : slice_get c.loop-slot.slots c.loop-slot.slot-index ≡ Some was = slice_get_read c.loop-slot.slots (length c.loop-slot.slots) c.loop-slot.slot-index c.slot-item.result refl below c.slot-item.is ∙ ap Some c.slot-item.is in
    let full : HasFullSlot c.args.slots.now c.args.acts = record {
      at = c.loop-slot.slot-index;
      slot = was;
      here = sym (c.loop-slot.invariant.0.from c.loop-slot.slot-index (omega arith)) ∙ here;
      is_open = c.in_err-make_room.ensures.open;
      full = c.in_err-make_room.ensures.full;
    } in
    left _ c.from_residual.result full

pub loop-slot-preserved : goal.loop-slot-preserved
loop-slot-preserved c =
    let below : c.loop-slot.slot-index < length c.loop-slot.slots = omega (arith, c.loop-slot-test.true, c.loop-slot.invariant.0.count) in
    let was : Slot = slice_index_or c.loop-slot.slots c.loop-slot.slot-index c.slot-item.result in
    let here : slice_get c.loop-slot.slots c.loop-slot.slot-index ≡ Some was = slice_get_read c.loop-slot.slots (length c.loop-slot.slots) c.loop-slot.slot-index c.slot-item.result refl below c.slot-item.is ∙ ap Some c.slot-item.is in (
      one_more HasMoreRoom c.loop-slot.slot-index c.args.slots.now c.loop-slot.slots was c.make_room.new.self c.loop-slot.invariant.0 here c.make_room.ensures.same,
      each_more (HasRoomFor c.args.acts) c.loop-slot.slot-index c.loop-slot.slots c.make_room.new.self below c.loop-slot.invariant.1 c.in_ok-make_room.ensures.room,
    )

pub returns-clause-same : goal.returns-clause-same
returns-clause-same c =
    all_of_them HasMoreRoom c.loop-slot.slot-index c.args.slots.now c.loop-slot.slots c.loop-slot.invariant.0 (omega (arith, c.loop-slot-test.false, c.loop-slot.invariant.0.count))

pub returns-clause-room : goal.returns-clause-room
returns-clause-room c = λ at slot here.
    c.loop-slot.invariant.1 at slot (omega (arith, slice_get_within c.loop-slot.slots at slot here, c.loop-slot-test.false, c.loop-slot.invariant.0.count)) here

pub loop-slot-init : goal.loop-slot-init
loop-slot-init c = (none_yet HasMoreRoom c.args.slots.now, λ at slot less here. absurd (omega (arith, less)))

pub make_room-requires : goal.make_room-requires
make_room-requires c =
    let below : c.loop-slot.slot-index < length c.loop-slot.slots = omega (arith, c.loop-slot-test.true, c.loop-slot.invariant.0.count) in
    let was : Slot = slice_index_or c.loop-slot.slots c.loop-slot.slot-index c.slot-item.result in
    let here : slice_get c.loop-slot.slots c.loop-slot.slot-index ≡ Some was = slice_get_read c.loop-slot.slots (length c.loop-slot.slots) c.loop-slot.slot-index c.slot-item.result refl below c.slot-item.is ∙ ap Some c.slot-item.is in
    let there : slice_get c.args.slots.now c.loop-slot.slot-index ≡ Some was = sym (c.loop-slot.invariant.0.from c.loop-slot.slot-index (omega arith)) ∙ here in
    c.requires c.loop-slot.slot-index was there

pub returns-in_err-make_room-clause-room : goal.returns-in_err-make_room-clause-room
returns-in_err-make_room-clause-room c = not_done _ c.from_residual.result c.in_err-make_room.field-0.0 c.from_residual.ensures

pub returns-in_err-make_room-clause-errors : goal.returns-in_err-make_room-clause-errors
returns-in_err-make_room-clause-errors c = why _ c.from_residual.result c.in_err-make_room.field-0.0 c.from_residual.ensures c.in_err-make_room.ensures.errors

pub returns-clause-full : goal.returns-clause-full
returns-clause-full c = tt

pub returns-clause-errors : goal.returns-clause-errors
returns-clause-errors c = tt
