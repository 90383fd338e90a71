use Rattle.std.proofs.Common.{length}
use Rattle.fenced.specs.Engine.{Tail}
use Rattle.etcd_text.specs.Tails.{said_by}
use Rattle.etcd_log.specs.Logged.{HasTail, text_in}
use Rattle.etcd_log.proofs.Putting.{HasPut}
use Rattle.etcd_log.proofs.pieces.put_all.Given as goal

-- the bytes before the rest stand behind the text, and the tail has their pieces
abbrev pub invariant-loop-rest : goal.invariant-loop-rest
invariant-loop-rest g l = record {
  tail : HasTail (g.X.Exchange.engine l.exchange) (record { generation = l.tail.generation; count = l.count; owner = l.tail.owner.now });
  put : HasPut l.bytes l.rest (text_in (g.X.Exchange.engine l.fn.exchange)) (text_in (g.X.Exchange.engine l.exchange));
}

abbrev pub decreases-loop-rest : goal.decreases-loop-rest
decreases-loop-rest g l = length l.rest
