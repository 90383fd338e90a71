use Rattle.std.proofs.Common.{rules, ℕ, List, true, ◌≡◌, ◌≤◌, length, Some, None, slice_get, get_or, refl, ap, sym, subst, ◌∙◌}
use Rattle.std.proofs.lemmas.Option.{slice_get_past, slice_get_read}
use Rattle.std.specs.Prelude.{nat_lt}
use Rattle.std.proofs.lemmas.Bool.Decides.{Decides-ltb}
use Rattle.named.specs.declared.slot.Slot.{Slot}
use Rattle.named.specs.Brokers.{Brokered, IsWell, world_at, world_of}
use Rattle.named.specs.Slots.{IsSlotWell}
use Rattle.named.proofs.acts.OneSlot.{slot_is_well}
use Rattle.named.proofs.broker.Broker.slot.Goals as goal

-- the slot that is found is that of the list
got : (shown slots : List Slot) → shown ≡ slots → (at : ℕ) (slot : Slot) → (true ≡ nat_lt at (length shown)) × (slot ≡ get_or shown at slot) → slice_get slots at ≡ Some slot
got shown slots same at slot found =
    subst (λ (l : List Slot). slice_get l at ≡ Some slot) same (slice_get_read shown (length shown) at slot refl ((Decides-ltb at (length shown)).0 (sym found.0)) found.1)

here : (c : goal.In-Some) → slice_get c.self.inside.slots.items c.args.slot.0 ≡ Some c.in-Some.slot.now
here c = got c.deref.result.now c.self.inside.slots.items c.deref.ensures.value c.args.slot.0 c.in-Some.slot.now (c.in-Some.ensures.lookup.0, c.in-Some.ensures.lookup.1)

pub returns-in-Some-clause-well : goal.returns-in-Some-clause-well
returns-in-Some-clause-well c =
    subst (λ (x : Brokered). IsSlotWell x.words c.in-Some.slot.now) c.self.view_is
    (slot_is_well c.self.inside.layout c.self.inside.memory.words c.args.slot.0 c.in-Some.slot.now (c.self.invariant.well.slots c.args.slot.0 c.in-Some.slot.now (here c)))

pub returns-in-None-clause-errors : goal.returns-in-None-clause-errors
returns-in-None-clause-errors c =
    let past : length c.self.inside.slots.items ≤ c.args.slot.0 = search rules in
    let none : slice_get c.self.inside.slots.items c.args.slot.0 ≡ None = slice_get_past c.self.inside.slots.items c.args.slot.0 past in
    (refl, sym (ap (λ (x : Brokered). world_at x c.args.slot.0) c.self.view_is) ∙ ap (world_of c.self.inside.memory.words) none)

pub returns-in-Some-clause-world : goal.returns-in-Some-clause-world
returns-in-Some-clause-world c = sym (ap (world_of c.args.self.now.words) (subst (λ (x : Brokered). slice_get x.slots c.args.slot.0 ≡ Some c.in-Some.slot.now) c.self.view_is (here c)))

pub returns-in-Some-clause-there : goal.returns-in-Some-clause-there
returns-in-Some-clause-there c = subst (λ (x : Brokered). slice_get x.slots c.args.slot.0 ≡ Some c.in-Some.slot.now) c.self.view_is (here c)

pub returns-in-Some-clause-whole : goal.returns-in-Some-clause-whole
returns-in-Some-clause-whole c = subst IsWell c.self.view_is c.self.invariant.well

pub returns-in-Some-clause-errors : goal.returns-in-Some-clause-errors
returns-in-Some-clause-errors c = tt

pub returns-in-None-clause-world : goal.returns-in-None-clause-world
returns-in-None-clause-world c = tt

pub returns-in-None-clause-there : goal.returns-in-None-clause-there
returns-in-None-clause-there c = tt

pub returns-in-None-clause-well : goal.returns-in-None-clause-well
returns-in-None-clause-well c = tt

pub returns-in-None-clause-whole : goal.returns-in-None-clause-whole
returns-in-None-clause-whole c = subst IsWell c.self.view_is c.self.invariant.well
