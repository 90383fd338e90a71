use Rattle.std.proofs.Common.{◌≡◌, ◌++◌, length}
use Rattle.std.specs.Vec.Iter.{into_iter_items, into_iter_len}
use Rattle.workers.specs.Seats.{AreAllInOrder}
use Rattle.seating.specs.Seating.{AreBack}
use Rattle.seating.proofs.seating.Places.put_all.Given as goal

abbrev pub invariant-loop-seat : goal.invariant-loop-seat
invariant-loop-seat g l = record {
  parts : l.fn.seats.items ≡ l.yielded ++ into_iter_items l.seat-iterator;
  counted : into_iter_len l.seat-iterator ≡ length (into_iter_items l.seat-iterator);
  back : AreAllInOrder (λ seat. seat.client) g.J.Naming.clients l.fn.seats.items → AreBack l.yielded l.self.seats.items;
}
