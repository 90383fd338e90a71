use Rattle.std.proofs.Common.{◌≡◌, ◌++◌, length}
use Rattle.std.specs.Prelude.{All}
use Rattle.std.specs.Vec.Iter.{into_iter_items, into_iter_len}
use Rattle.workers.specs.Moments.{GoesOnLater}
use Rattle.workers.proofs.locked.Locked.hear_all.Given as goal

abbrev pub invariant-loop-marked : goal.invariant-loop-marked
invariant-loop-marked g l = record {
  parts : l.fn.marks.items ≡ l.yielded ++ into_iter_items l.marked-iterator;
  counted : into_iter_len l.marked-iterator ≡ length (into_iter_items l.marked-iterator);
  same : l.self ≡ l.fn.self;
  later : All (λ marked. GoesOnLater marked l.self.session) l.yielded;
}
