use Rattle.std.proofs.Common.{below_more}
use Rattle.history.proofs.Facts.{queue_more, right_here}
use Rattle.history.proofs.plain_queue.replay_from.Goals as goal

pub loop-i-preserved : goal.loop-i-preserved
loop-i-preserved c = record {
  queue = queue_more _ _ _ _ _ _ c.index-entries-i.result c.loop-i-test.true c.loop-i.invariant.queue
      (rw (← c.index-entries-i.is) (c.in_ok-is_served.ensures.left c.if-not-branch.false));
  right = below_more _ _ c.loop-i.invariant.right
      (right_here _ _ _ _ _ c.index-entries-i.result c.loop-i-test.true c.loop-i.invariant.queue
      (rw (← c.index-entries-i.is) (c.in_ok-is_served.ensures.served.0 c.if-not-branch.false)));
}
