use Rattle.std.proofs.Common.{◌-◌, replicate}
use Rattle.broker_points.proofs.Making.{AttemptsLead}
use Rattle.broker_points.proofs.acts.repeat.Given as goal

-- what is left of the attempts adds what all of them add
abbrev pub invariant-loop : goal.invariant-loop
invariant-loop l =
    AttemptsLead l.fn.player (replicate l.most l.act) l.fn.acts.items l.player (replicate (l.most - l.counter) l.act) l.acts.items
