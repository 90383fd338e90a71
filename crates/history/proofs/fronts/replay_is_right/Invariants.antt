use Rattle.std.proofs.Common.{◌<◌, ℕ}
use Rattle.history.specs.Fronts.{IsFront}
use Rattle.events.specs.Replay.{IsRightAt}
use Rattle.history.proofs.fronts.replay_is_right.Given as goal

abbrev pub invariant-loop-i : goal.invariant-loop-i
invariant-loop-i l = record {
  front : IsFront l.events.items l.base l.entries l.fronts.base l.fronts.entry l.i;
  right : (k : ℕ) → k < l.i → IsRightAt l.events.items l.base l.entries k;
}
