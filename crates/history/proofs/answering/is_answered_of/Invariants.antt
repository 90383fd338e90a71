use Rattle.history.specs.Sweeps.{IsAnsweredTo}
use Rattle.history.proofs.answering.is_answered_of.Given as goal

abbrev pub invariant-loop-k : goal.invariant-loop-k
invariant-loop-k l = IsAnsweredTo l.events.items l.entries l.client l.k l.pass.call l.pass.from
