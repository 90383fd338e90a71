use Rattle.std.specs.Prelude.{ℕ, ◌<◌, ◌≡◌, Some, slice_get}
use Rattle.named.specs.Each.{HasOtherRoom}
use Rattle.named.specs.Slots.{HasRoomFor}
use Rattle.named.specs.declared.slot.Slot.{Slot}
use Rattle.named.proofs.acts.Loops.{BecomeBelow}
use Rattle.named.proofs.slots.take_rooms.Given as goal

abbrev pub invariant-loop-slot : goal.invariant-loop-slot
invariant-loop-slot l =
    BecomeBelow HasOtherRoom l.slot-index l.initial.slots l.slots
    × ((at : ℕ) (slot : Slot) → at < l.slot-index → slice_get l.slots at ≡ Some slot → HasRoomFor l.fn.acts slot)
