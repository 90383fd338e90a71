use Rattle.etcd_log.specs.Asking.{AreSame}
use Rattle.etcd_log.proofs.questions.question.Given as goal

-- nothing changes
abbrev pub invariant-loop : goal.invariant-loop
invariant-loop g l = AreSame (g.X.Exchange.engine l.fn.exchange) (g.X.Exchange.engine l.exchange)
