use Rattle.std.proofs.Common.{arith, ◌≡◌, ◌∙◌, ap, sym, [], ◌∷◌, ◌++◌, Some, length, length-append}
use Rattle.std.proofs.lemmas.List.{length-map, map-append, nil_from_length}
use Rattle.std.specs.Vec.Iter.{into_iter_items}
use Rattle.seating.proofs.Placing.{number_of_next, parts_after, places_of_none_left}
use Rattle.seating.proofs.seating.Seating.new.Goals as goal

pub loop-seat-preserved : goal.loop-seat-preserved
loop-seat-preserved g c =
    let i = c.loop-seat.invariant in
    let s = c.in-Some.ensures.steps in
    let pushed = c.push_reserved.ensures in
    let placed = c.loop-seat.yielded in
    let seat = c.in-Some.seat in
    let number = number_of_next (λ seat. seat.client) g.J.Naming.clients _ placed _ seat _ c.requires i.parts s.0 in
    record {
      parts = parts_after _ placed _ seat _ i.parts s.0;
      placed = pushed.items ∙ (ap (λ l. l ++ Some seat ∷ []) i.placed ∙ sym (map-append Some placed (seat ∷ [])));
      room = omega (arith, i.room, s.1, pushed.len, pushed.capacity);
      counted = omega (arith, number, c.from-clients.ensures, length-append placed (seat ∷ []));
      left = omega (arith, i.left, s.1, ap (λ l. length l) s.0);
      numbered = omega (arith, c.from-clients.ensures);
    }

pub invariant_of-new : goal.invariant_of-new
invariant_of-new g c =
    let i = c.loop-seat.invariant in
    let none : into_iter_items c.loop-seat.seat-iterator ≡ [] =
    nil_from_length _ (sym i.left ∙ c.in-None.ensures.steps.0) in
    record {
      in_places = places_of_none_left _ _ _ _ _ _ c.requires i.parts none i.placed;
      few = omega (arith, i.counted, i.numbered, ap (λ l. length l) i.placed, length-map c.loop-seat.yielded Some);
    }
