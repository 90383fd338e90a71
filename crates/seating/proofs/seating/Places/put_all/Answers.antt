use Rattle.std.proofs.Common.{arith, ap, length}
use Rattle.seating.proofs.Placing.{back_more, parts_after}
use Rattle.seating.proofs.seating.Places.put_all.Goals as goal

pub loop-seat-preserved : goal.loop-seat-preserved
loop-seat-preserved g c =
    let i = c.loop-seat.invariant in
    let s = c.in-Some.ensures.steps in
    let placed = c.loop-seat.yielded in
    let seat = c.in-Some.seat in
    let places = c.loop-seat.self in
    record {
      parts = parts_after _ placed _ seat _ i.parts s.0;
      counted = omega (arith, i.counted, s.1, ap (λ l. length l) s.0);
      back = λ order. rw c.put.ensures (back_more (λ seat. seat.client) g.J.Naming.clients _ placed _ seat _
          places.seats.items order i.parts s.0 places.in_places.all (i.back order));
    }
