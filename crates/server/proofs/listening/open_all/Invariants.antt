use Rattle.std.proofs.Common.{◌≡◌, vec_len}
use Rattle.server.proofs.listening.open_all.Given as goal

abbrev pub invariant-loop : goal.invariant-loop
invariant-loop g l = record {
  inboxes : vec_len l.inboxes ≡ l.counter;
  posts : vec_len l.posts ≡ l.counter;
}
