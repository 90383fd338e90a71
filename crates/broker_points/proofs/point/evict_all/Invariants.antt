use Rattle.std.proofs.Common.{drop, map}
use Rattle.broker_script.specs.Standing.{QueuesStay}
use Rattle.broker_points.specs.Points.{eviction}
use Rattle.broker_points.proofs.Leading.{LinesLead}
use Rattle.broker_points.proofs.point.evict_all.Given as goal

-- the words that are left lead where all of them do
abbrev pub invariant-loop-word : goal.invariant-loop-word
invariant-loop-word l =
    record {
      leads : LinesLead l.fn.player (map eviction l.words) l.player (map eviction (drop l.word-index l.words));
      known : QueuesStay l.known l.player.broker.directory;
    }
