use Rattle.std.proofs.Common.{◌≡◌, length}
use Rattle.arena.specs.declared.broker.TheConstants.{SLOTS}
use Rattle.workers.specs.Moments.{GoesOnLater}
use Rattle.server.specs.Seen.{AreHeldSince}
use Rattle.server.proofs.seen.broker_seen.Given as goal

-- all that were seen so far are held
abbrev pub invariant-loop-slot : goal.invariant-loop-slot
invariant-loop-slot g l = record {
  count : length l.seen.queues ≡ SLOTS;
  later : GoesOnLater g.J.Naming.first l.marked;
  held : AreHeldSince g.J.Naming.first l.seen.queues;
}
