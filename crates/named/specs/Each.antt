-- What becomes of each of a broker's slots.
use Rattle.std.specs.Prelude.{◌≡◌, ℕ, ◌+◌, ◌<◌, ◌≤◌, IsSome, List, Some, length, slice_get}
use Rattle.persist.specs.Memory.{Words, words_after_crash}
use Rattle.interleave.specs.State.{after_stop}
use Rattle.named.specs.Slots.{IsAsReady, IsSameSlot, IsSlotWell, acted, kind_in, room_in, world_in}
use Rattle.named.specs.declared.slot.Slot.{Slot}

-- this holds of each slot
abbrev pub EachSlot : (Slot → Type 0) → List Slot → Type 0
EachSlot p slots = (at : ℕ) (slot : Slot) → slice_get slots at ≡ Some slot → p slot

-- this holds of each slot as it was and as it is
pub record EachBecame (become : Slot → Slot → Type 0) (old new : List Slot) : Type 0 where
  pub count : length new ≡ length old
  pub each : (at : ℕ) (was is : Slot) → slice_get old at ≡ Some was → slice_get new at ≡ Some is → become was is

-- but for the room in the history of its queue, which may have grown, a slot is as it was
pub record HasMoreRoom (was is : Slot) : Type 0 where
  pub world : (ws : Words) → world_in ws is ≡ world_in ws was
  pub room : room_in was ≤ room_in is
  pub same : IsSameSlot was is
  pub as_ready : IsAsReady was is

-- but for that room, which may be another, a slot is as it was
pub record HasOtherRoom (was is : Slot) : Type 0 where
  pub world : (ws : Words) → world_in ws is ≡ world_in ws was
  pub same : IsSameSlot was is
  pub as_ready : IsAsReady was is

-- its queue stopped, over the words that a crash leaves
pub record HasStopped (was is : Slot) : Type 0 where
  pub world : (ws : Words) → world_in (words_after_crash ws) is ≡ acted after_stop (world_in ws was)
  pub well : (ws : Words) → IsSlotWell ws was → IsSlotWell (words_after_crash ws) is
  pub room : room_in was ≤ room_in is + 1
  pub same : IsSameSlot was is

-- the history of some slot's queue has no room for so many acts
pub record HasFullSlot (slots : List Slot) (acts : ℕ) : Type 0 where
  pub at : ℕ
  pub slot : Slot
  pub here : slice_get slots at ≡ Some slot
  pub is_open : IsSome (kind_in slot)
  pub full : room_in slot < acts
