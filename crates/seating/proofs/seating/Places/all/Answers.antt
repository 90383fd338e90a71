use Rattle.std.proofs.Common.{◌≡◌, ◌∙◌, sym, []}
use Rattle.std.proofs.lemmas.List.{nil_from_length}
use Rattle.std.specs.Vec.Iter.{into_iter_items}
use Rattle.seating.proofs.Placing.{all_of_none_left}
use Rattle.seating.proofs.seating.Places.all.Goals as goal

pub returns-clause-order : goal.returns-clause-order
returns-clause-order g c =
    let none : into_iter_items c.loop-place.place-iterator ≡ [] =
    nil_from_length _ (sym c.loop-place.invariant.counted ∙ c.in-None.ensures.steps.0) in
    all_of_none_left _ _ _ _ _ c.args.self.in_places c.loop-place.invariant.parts none
