use Rattle.std.proofs.Common.{◌≡◌, ◌≤◌, length, vec_capacity}
use Rattle.roll.specs.Rule.{IsKeeper, rows_of}
use Rattle.workers.specs.Seats.{AreAllInOrder, AreEmpty}
use Rattle.workers.proofs.opening.given_seats.Given as goal

abbrev pub invariant-loop-client : goal.invariant-loop-client
invariant-loop-client g l =
    let rows = rows_of l.keeper in
    IsKeeper g.J.Naming.roll.lists rows l.keeper
    × (length rows ≡ l.client)
    × AreEmpty (λ row. row) rows
    × AreAllInOrder (λ seat. seat.client) l.client l.seats.items
    × AreEmpty (λ seat. seat.list.items) l.seats.items
    × (l.clients ≤ vec_capacity l.seats)
