use Rattle.etcd_text.specs.Asked.{asked_by}
use Rattle.etcd_log.specs.Asking.{MayBeDone}
use Rattle.etcd_log.proofs.deciding.decide.Given as goal

-- the request may be done or not, however often it was sent
abbrev pub invariant-loop : goal.invariant-loop
invariant-loop g l = MayBeDone (asked_by l.fn.request) (g.X.Exchange.engine l.fn.exchange) (g.X.Exchange.engine l.exchange)
