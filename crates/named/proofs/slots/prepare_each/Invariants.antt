use Rattle.std.proofs.Common.{◌≡◌, ℕ, Some, List, length, slice_get}
use Rattle.std.specs.Prelude.{map}
use Rattle.words.specs.PlainQueue.{Value}
use Rattle.named.specs.Rotating.{IsBaseIn}
use Rattle.named.specs.declared.slot.Slot.{Slot}
use Rattle.named.proofs.slots.prepare_each.Given as goal

abbrev pub invariant-loop-slot : goal.invariant-loop-slot
invariant-loop-slot l = record {
  count : length l.bases.items ≡ l.slot-index;
  each : (at : ℕ) (slot : Slot) (base : List Value) → slice_get l.slots.items at ≡ Some slot
      → slice_get (map (λ base. base.items) l.bases.items) at ≡ Some base → IsBaseIn l.memory.words slot base;
}
