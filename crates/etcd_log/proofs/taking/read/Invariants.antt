use Rattle.etcd_log.specs.Asking.{AreSame}
use Rattle.etcd_log.specs.Logged.{HasPieces}
use Rattle.etcd_log.proofs.taking.read.Given as goal

-- the text has the pieces so far, and nothing changes
abbrev pub invariant-loop-number : goal.invariant-loop-number
invariant-loop-number g l = record {
  pieces : HasPieces (g.X.Exchange.engine l.exchange) l.generation l.number l.text.items;
  same : AreSame (g.X.Exchange.engine l.fn.exchange) (g.X.Exchange.engine l.exchange);
}
