use Rattle.std.proofs.Common.{◌≡◌, ◌+◌, ◌≤◌, ◌++◌, length, map, Some, vec_len, vec_capacity}
use Rattle.std.specs.Vec.Iter.{into_iter_items, into_iter_len}
use Rattle.seating.proofs.seating.Places.all.Given as goal

abbrev pub invariant-loop-place : goal.invariant-loop-place
invariant-loop-place g l = record {
  parts : l.fn.self.seats.items ≡ map Some l.all.items ++ into_iter_items l.place-iterator;
  room : vec_len l.all + into_iter_len l.place-iterator ≤ vec_capacity l.all;
  counted : into_iter_len l.place-iterator ≡ length (into_iter_items l.place-iterator);
}
