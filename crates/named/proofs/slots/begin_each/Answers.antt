use Rattle.std.proofs.Common.{rules, ◌≡◌, ℕ, length, List, [], ◌∷◌, ◌++◌, Some, Option, Vec, Global, slice_get, slice_set, slice_index_or, refl, arith, ap, sym, subst, ◌∙◌}
use Rattle.std.specs.Option.{option_to_list}
use Rattle.std.proofs.lemmas.Option.{slice_get_within}
use Rattle.std.proofs.lemmas.List.{map-append, length-map}
use Rattle.std.specs.Prelude.{map}
use Rattle.words.specs.PlainQueue.{Value}
use Rattle.named.specs.declared.slot.Slot.{Slot}
use Rattle.named.proofs.histories.Rotations.{AreBegunFrom, IsNext, begun_all, begun_more, next_slot}
use Rattle.named.proofs.slots.begin_each.Goals as goal

abbrev of_each : Vec Value Global → List Value
of_each v = v.items

-- what is left, with the base that was last
shown : (before after : List (Vec Value Global)) (base : Vec Value Global) (o : Option (Vec Value Global)) → before ≡ after ++ option_to_list o → o ≡ Some base
    → map of_each before ≡ map of_each after ++ base.items ∷ []
shown before after base o items is =
    ap (map of_each) (items ∙ ap (λ (x : Option (Vec Value Global)). after ++ option_to_list x) is) ∙ map-append of_each after (base ∷ [])

the_next : (c : goal.After-index-slots-len)
    → IsNext c.args.slots.now c.loop-base.slots (map of_each c.args.bases.items) c.in-Some.base.items c.len.result
    (slice_index_or c.loop-base.slots c.len.result c.index-slots-len.result)
the_next c =
    let many : c.len.result ≡ length c.pop.new.self.items = search rules in
    let bases : List (List Value) = map of_each c.args.bases.items in
    let left : List (List Value) = map of_each c.pop.new.self.items in
    next_slot c.args.memory.now.words c.args.slots.now bases c.loop-base.slots left c.in-Some.base.items c.len.result c.index-slots-len.result
    (subst (AreBegunFrom c.args.memory.now.words c.args.slots.now bases c.loop-base.slots)
    (shown c.loop-base.bases.items c.pop.new.self.items c.in-Some.base c.pop.result c.pop.ensures.items c.in-Some.is) c.loop-base.invariant)
    (many ∙ sym (length-map c.pop.new.self.items of_each))

pub begin_anew-requires-clause-well : goal.begin_anew-requires-clause-well
begin_anew-requires-clause-well c = (c.requires.quiet c.len.result (slice_index_or c.loop-base.slots c.len.result c.index-slots-len.result) (the_next c).was).0

pub begin_anew-requires-clause-quiet : goal.begin_anew-requires-clause-quiet
begin_anew-requires-clause-quiet c = (c.requires.quiet c.len.result (slice_index_or c.loop-base.slots c.len.result c.index-slots-len.result) (the_next c).was).1

pub begin_anew-requires-clause-base : goal.begin_anew-requires-clause-base
begin_anew-requires-clause-base c =
    let next = the_next c in
    c.requires.bases.each c.len.result (slice_index_or c.loop-base.slots c.len.result c.index-slots-len.result) c.in-Some.base.items next.was next.its_base

pub loop-base-preserved : goal.loop-base-preserved
loop-base-preserved c =
    let many : c.len.result ≡ length c.pop.new.self.items = search rules in
    let bases : List (List Value) = map of_each c.args.bases.items in
    let left : List (List Value) = map of_each c.pop.new.self.items in
    let was : Slot = slice_index_or c.loop-base.slots c.len.result c.index-slots-len.result in
    let h : AreBegunFrom c.args.memory.now.words c.args.slots.now bases c.loop-base.slots (left ++ c.in-Some.base.items ∷ []) =
    subst (AreBegunFrom c.args.memory.now.words c.args.slots.now bases c.loop-base.slots)
    (shown c.loop-base.bases.items c.pop.new.self.items c.in-Some.base c.pop.result c.pop.ensures.items c.in-Some.is) c.loop-base.invariant in
    let last : c.len.result ≡ length left = many ∙ sym (length-map c.pop.new.self.items of_each) in
    let next = next_slot c.args.memory.now.words c.args.slots.now bases c.loop-base.slots left c.in-Some.base.items c.len.result c.index-slots-len.result h last in
    subst (λ (n : ℕ). AreBegunFrom c.args.memory.now.words c.args.slots.now bases (slice_set c.loop-base.slots n c.begin_anew.new.self) left) (sym last)
    (begun_more c.args.memory.now.words c.args.slots.now bases c.loop-base.slots left c.in-Some.base.items was c.begin_anew.new.self h
    (ap (slice_get c.loop-base.slots) (sym last) ∙ next.now) c.begin_anew.ensures)

pub returns : goal.returns
returns c =
    let none : length c.loop-base.bases.items ≡ 0 = search rules in
    begun_all c.args.memory.now.words c.args.slots.now (map of_each c.args.bases.items) c.loop-base.slots (map of_each c.loop-base.bases.items) c.loop-base.invariant
    (length-map c.loop-base.bases.items of_each ∙ none)

pub loop-base-init : goal.loop-base-init
loop-base-init c = record {
  count = refl;
  few = omega (arith, c.requires.bases.count);
  bases_left = λ at base there. there;
  still = λ at below. refl;
  begun = λ at was is past there now. absurd (omega (arith, past, slice_get_within c.args.slots.now at was there, c.requires.bases.count));
}
