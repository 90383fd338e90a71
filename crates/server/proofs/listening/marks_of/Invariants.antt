use Rattle.std.proofs.Common.{◌≡◌, ◌++◌, ◌+◌, ◌≤◌, length, vec_len, vec_capacity}
use Rattle.std.specs.Prelude.{All}
use Rattle.std.specs.Vec.Iter.{into_iter_items, into_iter_len}
use Rattle.session.specs.Sessions.{Sessioned}
use Rattle.workers.specs.Moments.{GoesOnLater}
use Rattle.server.specs.Worked.{all_told, HasWorked}
use Rattle.server.proofs.listening.marks_of.Given as goal

abbrev pub invariant-loop-worker : goal.invariant-loop-worker
invariant-loop-worker g l = record {
  parts : l.fn.workers.items ≡ l.yielded ++ into_iter_items l.worker-iterator;
  counted : into_iter_len l.worker-iterator ≡ length (into_iter_items l.worker-iterator);
  room : vec_len l.marks + into_iter_len l.worker-iterator ≤ vec_capacity l.marks;
  worked : (last : Sessioned) → All (λ s. GoesOnLater s last) l.marks.items
      → All (HasWorked all_told g.J.Naming.clients g.J.Naming.first last) l.yielded;
}
