use Rattle.std.proofs.Common.{◌≡◌, ◌∙◌, ◌<◌, Some, ap, length, slice_get, slice_index_or, refl, arith}
use Rattle.std.proofs.lemmas.Option.{slice_get_read}
use Rattle.named.specs.Each.{HasStopped}
use Rattle.named.specs.declared.slot.Slot.{Slot}
use Rattle.named.proofs.acts.Loops.{all_of_them, one_more}
use Rattle.named.proofs.slots.stop_each.Goals as goal

pub loop-slot-preserved : goal.loop-slot-preserved
loop-slot-preserved c =
    let below : c.loop-slot.slot-index < length c.loop-slot.slots = omega (arith, c.loop-slot-test.true, c.loop-slot.invariant.count) in
    let was : Slot = slice_index_or c.loop-slot.slots c.loop-slot.slot-index c.slot-item.result in
    let here : slice_get c.loop-slot.slots c.loop-slot.slot-index ≡ Some was = slice_get_read c.loop-slot.slots (length c.loop-slot.slots) c.loop-slot.slot-index c.slot-item.result refl below c.slot-item.is ∙ ap Some c.slot-item.is in
    one_more HasStopped c.loop-slot.slot-index c.args.slots.now c.loop-slot.slots was c.stop.new.self c.loop-slot.invariant here
    (record { world = c.stop.ensures.world; well = c.stop.ensures.well; room = c.stop.ensures.room; same = c.stop.ensures.same })

pub returns : goal.returns
returns c =
    all_of_them HasStopped c.loop-slot.slot-index c.args.slots.now c.loop-slot.slots c.loop-slot.invariant (omega (arith, c.loop-slot-test.false, c.loop-slot.invariant.count))
