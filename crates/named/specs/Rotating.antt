-- A rotation of a broker: the histories of all its queues end, and others begin.
use Rattle.std.specs.Prelude.{◌≡◌, ◌≤◌, ℕ, Bool, true, false, ◌||◌, is_some, List, Some, Vec, length, map, slice_get, Result, Ok, Err, if◌then◌else◌}
use Rattle.std.specs.List.{list_any}
use Rattle.std.specs.declared.alloc.Global.{Global}
use Rattle.words.specs.PlainQueue.{Value}
use Rattle.words.specs.declared.refusal.Refusal.{Refusal}
use Rattle.words.specs.declared.refusal.Refusal.TheVariants.{NotReady, Busy, NoMemory}
use Rattle.persist.specs.Memory.{Words}
use Rattle.interleave.specs.Rotation.{after_rotation, some_client_calls}
use Rattle.interleave.specs.State.{kept_content}
use Rattle.named.specs.Slots.{acted, room_in, world_in, IfWorld, IsAsReady, IsReadyIn, IsSameSlot, IsSlotWell}
use Rattle.named.specs.Brokers.{Brokered, is_down, world_at}
use Rattle.named.specs.declared.slot.Slot.{Slot}
use Rattle.named.specs.declared.slot.Slot.TheVariants.{Closed, Open}

-- a client of the slot's queue has a call under way
abbrev pub has_calls_in : Slot → Bool
has_calls_in Closed = false
has_calls_in (Open block) = some_client_calls block.core.calls

-- the slot's queue is ready, and no client of it has a call under way; a closed slot has none
abbrev pub IsQuietIn : Slot → Type 0
IsQuietIn slot = IsReadyIn true slot × (has_calls_in slot ≡ false)

-- what the next history of the slot's queue begins with: what its kept words hold
abbrev pub IsBaseIn : Words → Slot → List Value → Type 0
IsBaseIn ws slot base = IfWorld (world_in ws slot) (λ w. base ≡ kept_content w)

-- the slot's queue, if it has one, began a history on what it holds and tells
pub record IsBegunAnew (ws : Words) (old new : Slot) : Type 0 where
  pub world : world_in ws new ≡ acted after_rotation (world_in ws old)
  pub well : IsSlotWell ws new
  pub room : room_in old ≤ room_in new
  pub same : IsSameSlot old new
  pub as_ready : IsAsReady old new

-- the items of each of these lists
abbrev pub items_of_each : List (Vec Value Global) → List (List Value)
items_of_each = map (λ values. values.items)

-- each slot's queue may end its history; this is what the next ones begin with; they began
abbrev pub AreQuiet : Words → List Slot → Type 0
AreQuiet ws slots = (at : ℕ) (slot : Slot) → slice_get slots at ≡ Some slot → IsSlotWell ws slot × IsQuietIn slot

pub record AreBases (ws : Words) (slots : List Slot) (bases : List (List Value)) : Type 0 where
  pub count : length bases ≡ length slots
  pub each : (at : ℕ) (slot : Slot) (base : List Value) → slice_get slots at ≡ Some slot
      → slice_get bases at ≡ Some base → IsBaseIn ws slot base

pub record AreBegunAnew (ws : Words) (old new : List Slot) : Type 0 where
  pub count : length new ≡ length old
  pub each : (at : ℕ) (was is : Slot) → slice_get old at ≡ Some was → slice_get new at ≡ Some is → IsBegunAnew ws was is

-- why the histories may not end now, the first reason that applies
abbrev pub rotate_result : Bool → Brokered → Result Unit Refusal
rotate_result full b =
    if is_down b then Err NotReady
    else (if is_some b.creation || list_any has_calls_in b.slots then Err Busy
    else (if full then Err NoMemory else Ok tt))

-- each queue's history ends, and another begins on what it holds and tells
pub record IsRotated (old new : Brokered) : Type 0 where
  pub same : new ≡ record old { slots = new.slots }
  pub worlds : (slot : ℕ) → world_at new slot ≡ acted after_rotation (world_at old slot)
