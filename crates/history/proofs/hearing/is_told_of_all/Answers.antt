use Rattle.std.proofs.Common.{below_more}
use Rattle.history.proofs.HearSteps.{progress_later}
use Rattle.history.proofs.hearing.is_told_of_all.Goals as goal

pub loop-q-preserved : goal.loop-q-preserved
loop-q-preserved c = record {
  entries_within = c.before_ready-progress.ensures.entries;
  so_far = progress_later _ _ _ _ _ _ _ _ c.before_ready-progress.ensures.so_far;
  few = c.calls_after.ensures.few;
  later = c.calls_after.ensures.later;
  told = below_more _ _ c.loop-q.invariant.told (c.is_told_at.ensures.told.0 c.if-not-is_told_at.false);
  sixteen = below_more _ _ c.loop-q.invariant.sixteen c.is_told_at.ensures.sixteen;
}
