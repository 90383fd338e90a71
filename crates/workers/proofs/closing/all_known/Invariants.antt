use Rattle.std.proofs.Common.{vec_len}
use Rattle.roll.specs.Rule.{IsKeeper, rows_of}
use Rattle.workers.proofs.seats.GivenSeats.{AreLeft}
use Rattle.workers.proofs.closing.all_known.Given as goal

abbrev pub invariant-loop-seat : goal.invariant-loop-seat
invariant-loop-seat g l =
    let rows = rows_of l.initial.keeper in
    IsKeeper g.J.Naming.roll.lists rows l.keeper
    × AreLeft (λ seat. seat.list.items) rows l.fn.seats.items l.seats.items

abbrev pub decreases-loop-seat : goal.decreases-loop-seat
decreases-loop-seat g l = vec_len l.seats
