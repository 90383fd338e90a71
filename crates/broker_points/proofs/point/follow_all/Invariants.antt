use Rattle.std.proofs.Common.{drop}
use Rattle.broker_script.specs.Standing.{QueuesStay}
use Rattle.broker_points.proofs.Leading.{LinesLead}
use Rattle.broker_points.proofs.point.follow_all.Given as goal

-- the lines that are left lead where all of them do
abbrev pub invariant-loop-statement : goal.invariant-loop-statement
invariant-loop-statement l =
    record {
      leads : LinesLead l.fn.player l.statements l.player (drop l.statement-index l.statements);
      known : QueuesStay l.known l.player.broker.directory;
    }
