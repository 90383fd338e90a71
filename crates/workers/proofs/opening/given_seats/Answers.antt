use Rattle.std.proofs.Common.{rules, arith, sym, ap, ◌∙◌, [], ◌∷◌, ◌++◌, List, length, length-append, ◌≡◌}
use Rattle.roll.specs.Rule.{keeper, rows_of}
use Rattle.workers.specs.declared.entry.Entry.{Entry}
use Rattle.workers.proofs.seats.GivenSeats.{empty_pushed, order_pushed}
use Rattle.workers.proofs.opening.given_seats.Goals as goal

pub loop-client-preserved : goal.loop-client-preserved
loop-client-preserved g c =
    let i = c.loop-client.invariant in
    let enrolled = c.enroll-token.ensures in
    let pushed = c.push_reserved.ensures in
    let old = rows_of c.loop-client.keeper in
    let row = c.new-list.result.items in
    let none = c.new-list.ensures.items in
    let rows : rows_of c.enroll-token.new.keeper ≡ old ++ row ∷ [] = ap (λ me. me.0.rows) enrolled.keeper.1 in
    let same : c.enroll-token.new.keeper.table_id ≡ g.J.Naming.roll.lists = search rules in (
      (same, enrolled.keeper.1 ∙ sym (ap (λ me. (keeper me.0.rows, [])) enrolled.keeper.1)),
      omega (arith, ap (λ (rows : List (List Entry)). length rows) rows, length-append old (row ∷ []), i.1),
      rw rows (empty_pushed (λ (r : List Entry). r) old row i.2 none),
      rw pushed.items (order_pushed _ _ _ c.seat_of.result i.3 c.seat_of.ensures.0),
      rw pushed.items (empty_pushed _ _ c.seat_of.result i.4 (c.seat_of.ensures.1 ∙ none)),
      omega (arith, i.5, pushed.capacity),
    )
