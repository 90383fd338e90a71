use Rattle.std.proofs.Common.{◌++◌, ◌∷◌, [], take, sym, ap, ◌∙◌, arith}
use Rattle.std.proofs.lemmas.Option.{get_or_from_slice_get, slice_get_within}
use Rattle.std.proofs.lemmas.List.{take_more}
use Rattle.events.specs.declared.event.Event.{Event}
use Rattle.explore.proofs.stop.copy_events.Goals as goal

pub loop-place-preserved : goal.loop-place-preserved
loop-place-preserved c =
    let items = c.args.others.now.items in
    let place = c.loop-place.place in
    let event : Event = c.at.result in
    let within = slice_get_within items place event c.at.ensures.event in
    record {
      copied =
          c.push.ensures.items ∙ ap (λ l. l ++ event ∷ []) c.loop-place.invariant.copied
          ∙ ap (λ x. take place items ++ x ∷ []) (sym (get_or_from_slice_get items place event event c.at.ensures.event))
          ∙ sym (take_more items place event within);
      room = omega (arith, c.loop-place.invariant.room, c.push.ensures.room);
    }
