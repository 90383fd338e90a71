use Rattle.std.proofs.Common.{◌≡◌, ◌+◌, ◌-◌, ◌≤◌, vec_len, vec_capacity}
use Rattle.workers.specs.Seats.{AreAllInOrder}
use Rattle.seating.proofs.seating.Places.take_all.Given as goal

abbrev pub invariant-loop-number : goal.invariant-loop-number
invariant-loop-number g l = record {
  order : AreAllInOrder (λ seat. seat.client) l.number l.all.items;
  room : vec_len l.all + (l.clients - l.number) ≤ vec_capacity l.all;
  all : l.clients ≡ g.J.Naming.clients;
  few : l.clients ≤ 256;
}
