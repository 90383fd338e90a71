use Rattle.std.proofs.Common.{◌≡◌, ◌+◌, ◌≤◌, ◌++◌, length, map, Some, vec_len, vec_capacity}
use Rattle.std.specs.Vec.Iter.{into_iter_items, into_iter_len}
use Rattle.seating.proofs.seating.Seating.new.Given as goal

abbrev pub invariant-loop-seat : goal.invariant-loop-seat
invariant-loop-seat g l = record {
  parts : l.fn.seats.items ≡ l.yielded ++ into_iter_items l.seat-iterator;
  placed : l.places.items ≡ map Some l.yielded;
  room : vec_len l.places + into_iter_len l.seat-iterator ≤ vec_capacity l.places;
  counted : l.clients ≡ length l.yielded;
  left : into_iter_len l.seat-iterator ≡ length (into_iter_items l.seat-iterator);
  numbered : l.clients ≤ 256;
}
