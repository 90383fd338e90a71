use Rattle.std.proofs.Common.{◌≡◌, ◌<◌, ℕ, ◌+◌, get_or, arith, length, List, [], ◌∷◌, ◌++◌, Some, Bool, true, Vec, Global, slice_get, if◌then◌else◌, refl, ap, sym, subst, ◌∙◌}
use Rattle.std.proofs.lemmas.List.{map-append, length-map, length_push}
use Rattle.std.proofs.lemmas.Option.{slice_get_read, slice_get_within}
use Rattle.std.specs.Prelude.{is_ok, map, not}
use Rattle.words.specs.PlainQueue.{Value}
use Rattle.named.specs.Rotating.{IsBaseIn}
use Rattle.named.specs.declared.slot.Slot.{Slot}
use Rattle.named.proofs.acts.Refused.{nothing, why}
use Rattle.named.proofs.histories.Rotations.{bases_more}
use Rattle.named.proofs.slots.prepare_each.Goals as goal

-- the slot of an iteration is that of the list
there : (slots shown : List Slot) → shown ≡ slots → (at : ℕ) → at < length shown → (slot : Slot) → slot ≡ get_or shown at slot → slice_get slots at ≡ Some slot
there slots shown same at below slot is = ap (λ (l : List Slot). slice_get l at) (sym same) ∙ slice_get_read shown (length shown) at slot refl below is

no_base : (bases : List (List Value)) → bases ≡ [] → (at : ℕ) (base : List Value) → slice_get bases at ≡ Some base → ⊥
no_base bases none at base here = omega (arith, slice_get_within bases at base here, ap length none)

pub prepare_rotation-requires-clause-quiet : goal.prepare_rotation-requires-clause-quiet
prepare_rotation-requires-clause-quiet c =
    let slots : List Slot = c.args.slots.now.items in
    (c.requires c.loop-slot.slot-index c.slot-item.result
    (there slots c.deref-slot-items.result.now c.deref-slot-items.ensures.value c.loop-slot.slot-index c.loop-slot-test.true c.slot-item.result c.slot-item.is)).1

pub loop-slot-preserved : goal.loop-slot-preserved
loop-slot-preserved c =
    let slots : List Slot = c.args.slots.now.items in
    let own : slice_get slots c.loop-slot.slot-index ≡ Some c.slot-item.result =
    there slots c.deref-slot-items.result.now c.deref-slot-items.ensures.value c.loop-slot.slot-index c.loop-slot-test.true c.slot-item.result c.slot-item.is in
    let before = c.loop-slot.bases.items in
    let of_each = λ (v : Vec Value Global). v.items in
    let held : List (List Value) = map of_each before in
    let base = c.in_ok-base.base in
    let ok : is_ok c.push.result ≡ true = c.is_err.ensures.negation ∙ ap not c.if-is_err.false in
    let items : c.push.new.self.items ≡ before ++ base ∷ [] =
    c.push.ensures.items ∙ ap (λ (b : Bool). if b then before ++ base ∷ [] else before) ok in
    let shown : map of_each c.push.new.self.items ≡ held ++ base.items ∷ [] = ap (map of_each) items ∙ map-append of_each before (base ∷ []) in
    let count : length held ≡ c.loop-slot.slot-index = length-map before of_each ∙ c.loop-slot.invariant.count in
    record {
      count = ap length items ∙ length_push before base ∙ ap (λ (n : ℕ). n + 1) c.loop-slot.invariant.count;
      each = subst (λ (l : List (List Value)). (at : ℕ) (s : Slot) (b : List Value) → slice_get slots at ≡ Some s → slice_get l at ≡ Some b → IsBaseIn c.args.memory.now.words s b) (sym shown)
          (bases_more c.args.memory.now.words slots held c.slot-item.result base.items c.loop-slot.invariant.each
          (ap (slice_get slots) count ∙ own) c.in_ok-base.ensures.base);
    }

pub returns-in_default-clause-bases : goal.returns-in_default-clause-bases
returns-in_default-clause-bases c = tt

pub returns-in_default-clause-errors : goal.returns-in_default-clause-errors
returns-in_default-clause-errors c = refl

pub loop-slot-init : goal.loop-slot-init
loop-slot-init c =
    let none : map (λ (v : Vec Value Global). v.items) c.in-Ok.bases.items ≡ [] = ap (map (λ (v : Vec Value Global). v.items)) c.in-Ok.ensures.items in
    record { count = ap length c.in-Ok.ensures.items; each = λ at slot base there here. absurd (no_base _ none at base here) }

pub prepare_rotation-requires-clause-well : goal.prepare_rotation-requires-clause-well
prepare_rotation-requires-clause-well c =
    let slots : List Slot = c.args.slots.now.items in
    (c.requires c.loop-slot.slot-index c.slot-item.result
    (there slots c.deref-slot-items.result.now c.deref-slot-items.ensures.value c.loop-slot.slot-index c.loop-slot-test.true c.slot-item.result c.slot-item.is)).0

pub returns-in_err-base-clause-bases : goal.returns-in_err-base-clause-bases
returns-in_err-base-clause-bases c = nothing _ c.from_residual.result c.in_err-base.field-0.0 c.from_residual.ensures

pub returns-in_err-base-clause-errors : goal.returns-in_err-base-clause-errors
returns-in_err-base-clause-errors c = why _ c.from_residual.result c.in_err-base.field-0.0 c.from_residual.ensures c.in_err-base.ensures.errors

pub returns-then-is_err-clause-bases : goal.returns-then-is_err-clause-bases
returns-then-is_err-clause-bases c = tt

pub returns-then-is_err-clause-errors : goal.returns-then-is_err-clause-errors
returns-then-is_err-clause-errors c = refl

pub returns-clause-bases : goal.returns-clause-bases
returns-clause-bases c = record {
  count = length-map c.loop-slot.bases.items (λ (v : Vec Value Global). v.items) ∙ c.loop-slot.invariant.count ∙ omega (arith, c.loop-slot-test.false, c.loop-slot.auto.slot-index-end, ap length c.deref-slot-items.ensures.value);
  each = c.loop-slot.invariant.each;
}

pub returns-clause-errors : goal.returns-clause-errors
returns-clause-errors c = tt
