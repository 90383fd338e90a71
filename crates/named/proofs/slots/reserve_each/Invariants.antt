use Rattle.std.specs.Prelude.{ℕ, ◌<◌, ◌≡◌, Some, slice_get}
use Rattle.named.specs.Each.{HasMoreRoom}
use Rattle.named.specs.Slots.{HasRoomFor}
use Rattle.named.specs.declared.slot.Slot.{Slot}
use Rattle.named.proofs.acts.Loops.{BecomeBelow}
use Rattle.named.proofs.slots.reserve_each.Given as goal

abbrev pub invariant-loop-slot : goal.invariant-loop-slot
invariant-loop-slot l =
    BecomeBelow HasMoreRoom l.slot-index l.initial.slots l.slots
    × ((at : ℕ) (slot : Slot) → at < l.slot-index → slice_get l.slots at ≡ Some slot → HasRoomFor l.acts slot)
