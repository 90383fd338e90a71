use Rattle.std.proofs.Common.{drop}
use Rattle.broker_points.proofs.Making.{ActsLead}
use Rattle.broker_points.proofs.acts.accepted_acts.Given as goal

-- the acts so far, and those of the lines that are left, are all
abbrev pub invariant-loop-statement : goal.invariant-loop-statement
invariant-loop-statement l = ActsLead l.fn.player l.statements l.player (drop l.statement-index l.statements) l.acts.items
