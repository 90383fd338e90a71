use Rattle.deciding.specs.Table.{calls_by}
use Rattle.deciding.proofs.Releases.{ReleaseSo}
use Rattle.deciding.proofs.bounds.release_of.Given as goal

abbrev pub invariant-loop-other : goal.invariant-loop-other
invariant-loop-other l = ReleaseSo (calls_by l.known l.ends) l.put l.other l.from
