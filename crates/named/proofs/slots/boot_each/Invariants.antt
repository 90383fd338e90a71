use Rattle.std.proofs.Common.{◌≡◌, ◌≤◌, ℕ, Some, Option, length, slice_get, vec_capacity}
use Rattle.directory.specs.declared.queue.Queue.{Queue}
use Rattle.named.specs.Booting.{IsSlotBooted}
use Rattle.named.specs.declared.slot.Slot.{Slot}
use Rattle.named.proofs.slots.boot_each.Given as goal

abbrev pub invariant-loop-slot : goal.invariant-loop-slot
invariant-loop-slot l = record {
  count : length l.slots.items ≡ l.slot;
  room : 8 ≤ vec_capacity l.slots;
  each : (at : ℕ) (slot : Slot) (place : Option Queue) → slice_get l.slots.items at ≡ Some slot
      → slice_get l.kept.directory at ≡ Some place → IsSlotBooted l.kept.layout l.memory.words at place slot;
}
