use Rattle.std.proofs.Common.{◌≡◌, ◌<◌, sym, ap, ◌∙◌, [], arith, drop, length, List, subst}
use Rattle.std.proofs.lemmas.List.{length-set}
use Rattle.roll.specs.Rule.{keeper}
use Rattle.workers.specs.declared.entry.Entry.{Entry}
use Rattle.workers.proofs.seats.Turns.{AreTurned, empty_below_more, empty_from_below, front_taken}
use Rattle.workers.proofs.seats.Turns.{turned_empty, turned_first, turned_more, turned_order}
use Rattle.workers.proofs.closing.all_emptied.Goals as goal

pub loop-preserved : goal.loop-preserved
loop-preserved g c =
    let i = c.loop.invariant in
    let clients = g.J.Naming.clients in
    let seat = c.remove-seat.result in
    let rest = drop 1 c.loop.seats.items in
    let n = c.loop.counter in
    let old = c.loop.keeper.me.0.rows in
    let removed = c.remove-seat.ensures in
    let written = c.emptied.ensures in
    let pushed = c.push_reserved.ensures in
    let below : n < clients = omega (arith, i.2, c.loop-test.true) in
    let front = front_taken c.loop.seats.items seat (omega (arith, below, i.4.all)) removed.value in
    let turned = subst (λ items. AreTurned (λ seat. seat.client) (λ seat. seat.list.items) clients n items) front i.4 in
    let first = ap (λ client. client.0) (turned_first _ _ clients n seat rest below turned) in
    let rows = ap (λ me. me.0.rows) written.keeper.1 in (
      (written.keeper.0, written.keeper.1 ∙ sym (ap (λ me. (keeper me.0.rows, [])) written.keeper.1)),
      ap (λ (rows : List (List Entry)). length rows) rows ∙ (length-set old seat.client.0 [] ∙ i.1),
      i.2,
      rw (rows, first) (empty_below_more n old i.3),
      rw (pushed.items, removed.items)
          (turned_more _ _ clients n seat c.emptied.result rest below turned written.client written.list),
    )

pub returns-clause-rows : goal.returns-clause-rows
returns-clause-rows g c =
    let i = c.loop.invariant in
    let all : c.loop.counter ≡ g.J.Naming.clients = omega (arith, i.2, c.loop-test.false, c.loop.auto.counter-end) in
    empty_from_below c.loop.counter c.loop.keeper.me.0.rows (i.1 ∙ sym all) i.3

pub returns-clause-order : goal.returns-clause-order
returns-clause-order g c =
    let i = c.loop.invariant in
    let all : c.loop.counter ≡ g.J.Naming.clients = omega (arith, i.2, c.loop-test.false, c.loop.auto.counter-end) in
    turned_order _ (λ seat. seat.list.items) _ _ (rw all at i.4)

pub returns-clause-empty : goal.returns-clause-empty
returns-clause-empty g c =
    let i = c.loop.invariant in
    let all : c.loop.counter ≡ g.J.Naming.clients = omega (arith, i.2, c.loop-test.false, c.loop.auto.counter-end) in
    turned_empty (λ seat. seat.client) _ _ _ (rw all at i.4)
