-- Room made in the history of one slot's queue leaves every world as it was.
use Rattle.std.proofs.Common.{◌≡◌, ℕ, ◌≤◌, ◌⊎◌, inl, inr, slice_get, slice_set, Some, refl, sym, ap, ◌∙◌, subst, arith}
use Rattle.std.proofs.lemmas.Bool.{cases_eq}
use Rattle.std.proofs.lemmas.Option.{slice_get_within}
use Rattle.persist.specs.Memory.{Words}
use Rattle.interleave.specs.Holds.{Holds}
use Rattle.interleave.proofs.Facts.{get_set, room_held}
use Rattle.named.specs.Blocks.{BlockState, IsWellIn, state_in, LieInOnePlace}
use Rattle.named.specs.Slots.{AreEffectsFew, IsSameOutsideSlot, IsSameSlot, IsSlotWell, room_in, world_in}
use Rattle.named.specs.Brokers.{Brokered, room_of, world_of}
use Rattle.named.specs.declared.slot.Slot.{Slot}
use Rattle.named.specs.declared.slot.Slot.TheVariants.{Closed, Open}
use Rattle.named.proofs.acts.OneSlot.{get_set_other, some_is}

pub few : (ws : Words) (slot : Slot) → IsSlotWell ws slot → AreEffectsFew slot
few ws Closed well = tt
few ws (Open block) well = room_held well.holds

-- a memory that stays is the same outside any block
pub same_outside : (ws : Words) (slot : Slot) → IsSameOutsideSlot slot ws ws
same_outside ws Closed = refl
same_outside ws (Open block) = record { cached_before = refl; cached_after = refl; kept_before = refl; kept_after = refl }

block_reserved : (ws : Words) (was is : BlockState) → IsWellIn ws was → LieInOnePlace was is → Some (state_in ws is) ≡ Some (state_in ws was) → IsWellIn ws is
block_reserved ws was is here place same = record {
  some = omega (arith, here.some, place.1);
  inside = omega (arith, here.inside, place.0, place.1);
  ports = omega (arith, here.ports, place.2);
  holds = subst Holds (some_is (Some (state_in ws was)) (state_in ws was) (state_in ws is) refl (sym same)) here.holds;
}

pub slot_reserved : (ws : Words) (was is : Slot) → IsSlotWell ws was → IsSameSlot was is → world_in ws is ≡ world_in ws was → IsSlotWell ws is
slot_reserved ws Closed Closed here place same = tt
slot_reserved ws (Open was) (Open is) here place same = block_reserved ws was is here place same
slot_reserved ws Closed (Open is) here place same = absurd place
slot_reserved ws (Open was) Closed here place same = absurd place

module _ (b : Brokered) (i : ℕ) (was is : Slot) (here : slice_get b.slots i ≡ Some was) where
  at_is : slice_get (slice_set b.slots i is) i ≡ Some is
  at_is = get_set b.slots i is (slice_get_within b.slots i was here)

  pub room_here : room_of (slice_get (slice_set b.slots i is) i) ≡ room_in is
  room_here = ap room_of at_is

  pub worlds_same : world_in b.words is ≡ world_in b.words was → (at : ℕ)
      → world_of b.words (slice_get (slice_set b.slots i is) at) ≡ world_of b.words (slice_get b.slots at)
  worlds_same same at = go (cases_eq at i)
    where
      go : (at ≡ i) ⊎ (at ≡ i → ⊥) → world_of b.words (slice_get (slice_set b.slots i is) at) ≡ world_of b.words (slice_get b.slots at)
      go (inl e) = subst (λ n. world_of b.words (slice_get (slice_set b.slots i is) n) ≡ world_of b.words (slice_get b.slots n)) (sym e)
          (ap (world_of b.words) at_is ∙ same ∙ sym (ap (world_of b.words) here))
      go (inr ne) = ap (world_of b.words) (get_set_other b.slots i is at ne)

  pub rooms_kept : room_in was ≤ room_in is → (at : ℕ) → room_of (slice_get b.slots at) ≤ room_of (slice_get (slice_set b.slots i is) at)
  rooms_kept kept at = go (cases_eq at i)
    where
      go : (at ≡ i) ⊎ (at ≡ i → ⊥) → room_of (slice_get b.slots at) ≤ room_of (slice_get (slice_set b.slots i is) at)
      go (inl e) = subst (λ n. room_of (slice_get b.slots n) ≤ room_of (slice_get (slice_set b.slots i is) n)) (sym e)
          (omega (arith, ap room_of here, room_here, kept))
      go (inr ne) = omega (arith, ap room_of (get_set_other b.slots i is at ne))
