use Rattle.std.proofs.Common.{◌≡◌, length}
use Rattle.roll.specs.Rule.{IsKeeper}
use Rattle.workers.proofs.seats.Turns.{AreEmptyBelow, AreTurned}
use Rattle.workers.proofs.closing.all_emptied.Given as goal

abbrev pub invariant-loop : goal.invariant-loop
invariant-loop g l =
    let rows = l.keeper.me.0.rows in
    IsKeeper g.J.Naming.roll.lists rows l.keeper
    × (length rows ≡ g.J.Naming.clients)
    × (l.end ≡ g.J.Naming.clients)
    × AreEmptyBelow l.counter rows
    × AreTurned (λ seat. seat.client) (λ seat. seat.list.items) g.J.Naming.clients l.counter l.seats.items
