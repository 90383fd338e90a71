use Rattle.std.proofs.Common.{below_more}
use Rattle.history.proofs.fronts.replay_is_right.Goals as goal

pub loop-i-preserved : goal.loop-i-preserved
loop-i-preserved c = record {
  front = c.is_right_next.ensures.front c.if-not-is_right_next.false;
  right = below_more _ _ c.loop-i.invariant.right (c.is_right_next.ensures.right.0 c.if-not-is_right_next.false);
}
