use Rattle.std.proofs.Common.{◌≡◌, length}
use Rattle.etcd_text.specs.Tails.{said_by}
use Rattle.etcd_log.specs.Logged.{HasTail, text_in}
use Rattle.etcd_log.proofs.Putting.{IsWritten}
use Rattle.etcd_log.proofs.pieces.fresh_all.Given as goal

-- the bytes before the rest are in the pieces so far, and the log is as it was
abbrev pub invariant-loop-rest : goal.invariant-loop-rest
invariant-loop-rest g l = record {
  tail : HasTail (g.X.Exchange.engine l.exchange) (said_by l.tail);
  pieces : IsWritten l.bytes l.rest (g.X.Exchange.engine l.exchange) l.generation l.number;
  text : text_in (g.X.Exchange.engine l.exchange) ≡ text_in (g.X.Exchange.engine l.fn.exchange);
}

abbrev pub decreases-loop-rest : goal.decreases-loop-rest
decreases-loop-rest g l = length l.rest
