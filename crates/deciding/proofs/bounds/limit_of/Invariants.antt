use Rattle.deciding.specs.Table.{calls_by}
use Rattle.deciding.proofs.Limits.{LimitSo}
use Rattle.deciding.proofs.bounds.limit_of.Given as goal

abbrev pub invariant-loop-other : goal.invariant-loop-other
invariant-loop-other l = LimitSo (calls_by l.known l.ends) l.put l.other l.limit
