use Rattle.std.proofs.Common.{◌≡◌, ◌++◌, length}
use Rattle.std.specs.Prelude.{All}
use Rattle.std.specs.Vec.Iter.{into_iter_items, into_iter_len}
use Rattle.workers.specs.Moments.{GoesOnLater}
use Rattle.server.proofs.lasting_net.all_heard.Given as goal

abbrev pub invariant-loop-token : goal.invariant-loop-token
invariant-loop-token g l = record {
  parts : l.fn.tokens.items ≡ l.yielded ++ into_iter_items l.token-iterator;
  counted : into_iter_len l.token-iterator ≡ length (into_iter_items l.token-iterator);
  same : l.settler ≡ l.fn.settler;
  heard : All (λ sure. GoesOnLater sure l.fn.settler.kept.last) l.yielded;
}
