-- Room that is made in the history of each queue.
use Rattle.std.proofs.Common.{◌≡◌, ◌∙◌, ◌<◌, ◌≤◌, ℕ, List, Option, Some, None, length, get_or, slice_get, refl, sym, ap, subst, arith}
use Rattle.std.specs.Prelude.{IsSome}
use Rattle.std.proofs.lemmas.Option.{slice_get-get_or, slice_get_within}
use Rattle.persist.specs.Memory.{Words, words_after_crash}
use Rattle.arena.specs.Shape.{Counts}
use Rattle.directory.specs.Directory.{Directory}
use Rattle.directory.specs.declared.queue.Queue.{Queue}
use Rattle.interleave.specs.State.{State}
use Rattle.named.specs.Blocks.{state_in}
use Rattle.named.specs.Booting.{AreSlotsBooted, IsSlotBooted, block_booted}
use Rattle.named.specs.Brokers.{Brokered, room_of, world_of}
use Rattle.named.specs.Each.{EachBecame, EachSlot, HasMoreRoom, HasOtherRoom}
use Rattle.named.specs.Renewing.{HasRoomInEach}
use Rattle.named.specs.Slots.{AreEffectsFew, HasEmptyHistory, HasRoomFor, IsSameSlot, IsSlotWell, room_in, world_in}
use Rattle.named.specs.declared.slot.Slot.{Slot}
use Rattle.named.specs.declared.slot.Slot.TheVariants.{Closed, Open}
use Rattle.named.proofs.acts.OneSlot.{kind_stays, slot_is_well, slot_now, some_is}
use Rattle.named.proofs.histories.Reservations.{few, same_outside, slot_reserved}

room_there : (ws : Words) (acts : ℕ) (slot : Slot) → HasRoomFor acts slot → IsSome (world_in ws slot) → acts ≤ room_in slot
room_there ws acts Closed room there = absurd (cc (there))
room_there ws acts (Open block) room there = room

pub room_in_each : (b : Brokered) (acts : ℕ) → EachSlot (HasRoomFor acts) b.slots → HasRoomInEach b acts
room_in_each b acts each at = go (slice_get b.slots at) refl
  where
    go : (o : Option Slot) → slice_get b.slots at ≡ o → IsSome (world_of b.words o) → acts ≤ room_of o
    go None is there = absurd (cc (there))
    go (Some slot) is there = room_there b.words acts slot (each at slot is) there

-- slots that begin are such that room may be made in their histories, and then they begin as before
closed_same : (is : Slot) → IsSameSlot Closed is → is ≡ Closed
closed_same Closed same = refl
closed_same (Open block) same = absurd same

module _ (c : Counts) (ws : Words) where
  few_there : (at : ℕ) (place : Option Queue) (slot : Slot) → IsSlotBooted c ws at place slot → AreEffectsFew slot
  few_there at None slot booted = subst AreEffectsFew (sym booted) tt
  few_there at (Some queue) slot booted =
      few (words_after_crash ws) slot (slot_is_well c (words_after_crash ws) at slot booted.here)

  pub booted_few : (directory : Directory) (slots : List Slot) → length directory ≡ 8
      → AreSlotsBooted c ws directory slots → EachSlot AreEffectsFew slots
  booted_few directory slots long booted at slot here =
      let below : at < length directory = omega (arith, slice_get_within slots at slot here, booted.count, long) in
      let place : Option Queue = get_or directory at None in
      few_there at place slot (booted.each at slot place here (slice_get-get_or directory at None below))

  other_there : (at : ℕ) (place : Option Queue) (was is : Slot) → HasOtherRoom was is → IsSlotBooted c ws at place was
      → IsSlotBooted c ws at place is
  other_there at None was is more booted =
      closed_same is (subst (λ (slot : Slot). IsSameSlot slot is) booted more.same)
  other_there at (Some queue) was is more booted =
      let crashed : Words = words_after_crash ws in
      let well : IsSlotWell crashed is =
      slot_reserved crashed was is (slot_is_well c crashed at was booted.here) more.same (more.world crashed) in
      record {
        kind_is = kind_stays was is more.same ∙ booted.kind_is;
        world = more.world crashed ∙ booted.world;
        here = slot_now c crashed crashed at was is booted.here well more.same (same_outside crashed was);
      }

  -- nothing happened yet in their histories
  empty_there : (at : ℕ) (place : Option Queue) (slot : Slot) → IsSlotBooted c ws at place slot → HasEmptyHistory slot
  empty_there at None slot booted = subst HasEmptyHistory (sym booted) tt
  empty_there at (Some queue) Closed booted = tt
  empty_there at (Some queue) (Open block) booted =
      let crashed : Words = words_after_crash ws in
      let begins : State = block_booted c queue.kind at ws in
      ap (λ (w : State). w.log) (some_is (world_in crashed (Open block)) (state_in crashed block) begins refl booted.world)

  pub booted_empty : (directory : Directory) (slots : List Slot) → length directory ≡ 8
      → AreSlotsBooted c ws directory slots → EachSlot HasEmptyHistory slots
  booted_empty directory slots long booted at slot here =
      let below : at < length directory = omega (arith, slice_get_within slots at slot here, booted.count, long) in
      let place : Option Queue = get_or directory at None in
      empty_there at place slot (booted.each at slot place here (slice_get-get_or directory at None below))

  pub booted_elsewhere : (directory : Directory) (old new : List Slot) → AreSlotsBooted c ws directory old
      → EachBecame HasOtherRoom old new → AreSlotsBooted c ws directory new
  booted_elsewhere directory old new booted each = record {
    count = each.count ∙ booted.count;
    each = λ at is place here listed.
        let below : at < length old = omega (arith, slice_get_within new at is here, each.count) in
        let was : Slot = get_or old at Closed in
        let there : slice_get old at ≡ Some was = slice_get-get_or old at Closed below in
        other_there at place was is (each.each at was is there here) (booted.each at was place there listed);
  }

  pub booted_roomier : (directory : Directory) (old new : List Slot) → AreSlotsBooted c ws directory old
      → EachBecame HasMoreRoom old new → AreSlotsBooted c ws directory new
  booted_roomier directory old new booted each = booted_elsewhere directory old new booted (record {
    count = each.count;
    each = λ at was is here there.
        let more = each.each at was is here there in
        record { world = more.world; same = more.same; as_ready = more.as_ready };
  })
