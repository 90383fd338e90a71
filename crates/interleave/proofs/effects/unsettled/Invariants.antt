use Rattle.std.proofs.Common.{◌≡◌, ◌≤◌, length}
use Rattle.interleave.proofs.order.PendingEffects.{HasNoneFrom}
use Rattle.interleave.proofs.effects.unsettled.Given as goal

abbrev pub invariant-loop-after : goal.invariant-loop-after
invariant-loop-after l = record {
  same : l.effects ≡ l.fn.effects;
  place : l.place ≡ l.fn.place;
  within : l.after ≤ length l.fn.effects;
  none : HasNoneFrom l.fn.place l.fn.effects l.after;
}

abbrev pub decreases-loop-after : goal.decreases-loop-after
decreases-loop-after l = l.after
