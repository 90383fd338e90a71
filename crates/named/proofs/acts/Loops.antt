-- A loop over the slots, which changes each of them in turn.
use Rattle.std.proofs.Common.{◌≡◌, ℕ, ◌+◌, ◌<◌, ◌≤◌, ◌⊎◌, inl, inr, List, Some, length, slice_get, slice_set, refl, sym, ap, subst, ◌∙◌, arith}
use Rattle.std.proofs.lemmas.Bool.{cases_eq, cases_lt}
use Rattle.std.proofs.lemmas.Option.{slice_get_within}
use Rattle.interleave.proofs.Facts.{get_set}
use Rattle.named.specs.Each.{EachBecame, HasMoreRoom}
use Rattle.named.specs.Slots.{IsAsReady, IsSameSlot, room_in}
use Rattle.named.specs.Brokers.{room_of}
use Rattle.named.specs.declared.slot.Slot.{Slot}
use Rattle.named.specs.declared.slot.Slot.TheVariants.{Closed, Open}
use Rattle.named.proofs.acts.OneSlot.{get_set_other, length_set, some_is}

-- the slots below this place became so, and the others are as they were
pub record BecomeBelow (become : Slot → Slot → Type 0) (k : ℕ) (old now : List Slot) : Type 0 where
  pub count : length now ≡ length old
  pub below : (at : ℕ) (was is : Slot) → at < k → slice_get old at ≡ Some was → slice_get now at ≡ Some is → become was is
  pub from : (at : ℕ) → k ≤ at → slice_get now at ≡ slice_get old at

module _ (become : Slot → Slot → Type 0) where
  pub none_yet : (slots : List Slot) → BecomeBelow become 0 slots slots
  none_yet slots = record {
    count = refl;
    below = λ at was is less here there. absurd (omega (arith, less));
    from = λ at past. refl;
  }

  pub one_more : (k : ℕ) (old now : List Slot) (was is : Slot) → BecomeBelow become k old now → slice_get now k ≡ Some was → become was is
      → BecomeBelow become (k + 1) old (slice_set now k is)
  one_more k old now was is so_far here became = record {
    count = length_set now k is ∙ so_far.count;
    below = below;
    from = λ at past. get_set_other now k is at (λ e. absurd (omega (arith, e, past))) ∙ so_far.from at (omega (arith, past));
  }
    where
      below : (at : ℕ) (w s : Slot) → at < k + 1 → slice_get old at ≡ Some w → slice_get (slice_set now k is) at ≡ Some s → become w s
      below at w s less before after = go (cases_eq at k)
        where
          go : (at ≡ k) ⊎ (at ≡ k → ⊥) → become w s
          go (inl same) =
              let e : slice_get (slice_set now k is) k ≡ Some s = subst (λ n. slice_get (slice_set now k is) n ≡ Some s) same after in
              let is_it : is ≡ s = some_is _ is s (get_set now k is (slice_get_within now k was here)) e in
              let e2 : slice_get old k ≡ Some w = subst (λ n. slice_get old n ≡ Some w) same before in
              let was_it : was ≡ w = some_is _ was w (sym (so_far.from k (omega arith)) ∙ here) e2 in
              subst (λ (x : Slot). become x s) was_it (subst (become was) is_it became)
          go (inr ne) = so_far.below at w s (omega (arith, less, ne)) before (sym (get_set_other now k is at ne) ∙ after)

  pub all_of_them : (k : ℕ) (old now : List Slot) → BecomeBelow become k old now → length now ≤ k → EachBecame become old now
  all_of_them k old now so_far past = record {
    count = so_far.count;
    each = λ at was is before after. so_far.below at was is (omega (arith, slice_get_within now at is after, past)) before after;
  }

  -- where nothing became of the others
  pub so_many : ((s : Slot) → become s s) → (k : ℕ) (old now : List Slot) → BecomeBelow become k old now → EachBecame become old now
  so_many itself k old now so_far = record { count = so_far.count; each = each }
    where
      each : (at : ℕ) (was is : Slot) → slice_get old at ≡ Some was → slice_get now at ≡ Some is → become was is
      each at was is before after = go (cases_lt at k)
        where
          go : (at < k) ⊎ (k ≤ at) → become was is
          go (inl less) = so_far.below at was is less before after
          go (inr past) = subst (become was) (some_is _ was is (so_far.from at past ∙ before) after) (itself was)

same_slot : (s : Slot) → IsSameSlot s s
same_slot Closed = tt
same_slot (Open block) = (refl, refl, refl, refl)

as_ready : (s : Slot) → IsAsReady s s
as_ready Closed = tt
as_ready (Open block) = refl

pub as_it_was : (s : Slot) → HasMoreRoom s s
as_it_was s = record { world = λ ws. refl; room = omega arith; same = same_slot s; as_ready = as_ready s }

-- what holds of each slot below this place, and of the one here, holds of each below the next
pub each_more : (p : Slot → Type 0) (k : ℕ) (now : List Slot) (is : Slot) → k < length now
    → ((at : ℕ) (slot : Slot) → at < k → slice_get now at ≡ Some slot → p slot) → p is
    → (at : ℕ) (slot : Slot) → at < k + 1 → slice_get (slice_set now k is) at ≡ Some slot → p slot
each_more p k now is inside so_far own at slot less after = go (cases_eq at k)
  where
    go : (at ≡ k) ⊎ (at ≡ k → ⊥) → p slot
    go (inl same) =
        let e : slice_get (slice_set now k is) k ≡ Some slot = subst (λ n. slice_get (slice_set now k is) n ≡ Some slot) same after in
        subst p (some_is _ is slot (get_set now k is inside) e) own
    go (inr ne) = so_far at slot (omega (arith, less, ne)) (sym (get_set_other now k is at ne) ∙ after)

-- where an act on one slot took room for one event at most, each has as much but for that
pub rooms_after : (slots : List Slot) (i : ℕ) (was is : Slot) → slice_get slots i ≡ Some was → room_in was ≤ room_in is + 1
    → (at : ℕ) → room_of (slice_get slots at) ≤ room_of (slice_get (slice_set slots i is) at) + 1
rooms_after slots i was is here spent at = go (cases_eq at i)
  where
    go : (at ≡ i) ⊎ (at ≡ i → ⊥) → room_of (slice_get slots at) ≤ room_of (slice_get (slice_set slots i is) at) + 1
    go (inl e) = subst (λ n. room_of (slice_get slots n) ≤ room_of (slice_get (slice_set slots i is) n) + 1) (sym e)
        (omega (arith, ap room_of here, ap room_of (get_set slots i is (slice_get_within slots i was here)), spent))
    go (inr ne) = omega (arith, ap room_of (get_set_other slots i is at ne))

-- and none, where it uses up none
pub rooms_kept : (slots : List Slot) (i : ℕ) (was is : Slot) → slice_get slots i ≡ Some was → room_in was ≤ room_in is
    → (at : ℕ) → room_of (slice_get slots at) ≤ room_of (slice_get (slice_set slots i is) at)
rooms_kept slots i was is here kept at = go (cases_eq at i)
  where
    go : (at ≡ i) ⊎ (at ≡ i → ⊥) → room_of (slice_get slots at) ≤ room_of (slice_get (slice_set slots i is) at)
    go (inl e) = subst (λ n. room_of (slice_get slots n) ≤ room_of (slice_get (slice_set slots i is) n)) (sym e)
        (omega (arith, ap room_of here, ap room_of (get_set slots i is (slice_get_within slots i was here)), kept))
    go (inr ne) = omega (arith, ap room_of (get_set_other slots i is at ne))
