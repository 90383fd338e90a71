use Rattle.std.proofs.Common.{rules, ◌≡◌, [], List, Some, ap, ◌∙◌, subst}
use Rattle.std.specs.Prelude.{slice_get}
use Rattle.roll.specs.Rule.{keeper, rows_of}
use Rattle.workers.specs.declared.entry.Entry.{Entry}
use Rattle.workers.proofs.seats.GivenSeats.{left_popped, rows_from_none_left}
use Rattle.workers.proofs.closing.all_known.Goals as goal

pub loop-seat-preserved : goal.loop-seat-preserved
loop-seat-preserved g c =
    let i = c.loop-seat.invariant in
    let seat = c.in-Some.seat in
    let told = c.known.ensures in
    let now = rows_of c.loop-seat.keeper in
    let was = rows_of c.args.keeper in
    let same : now ≡ was = ap (λ me. me.0.rows) i.0.1 in
    let place = seat.client.0 in
    let list = seat.list.items in
    let known = subst (λ (rows : List (List Entry)). slice_get rows place ≡ Some list) same told.known in (
      (told.keeper.0, told.keeper.1 ∙ ap (λ (rows : List (List Entry)). (keeper rows, [])) same),
      left_popped _ _ _ was _ _ _ seat c.requires.order i.1 c.in-Some.ensures.items known,
    )

pub returns : goal.returns
returns g c =
    let none : c.loop-seat.seats.items ≡ [] = search rules in
    record { each = λ k seat at. rows_from_none_left _ _ _ _ c.loop-seat.invariant.1 none k seat at }
