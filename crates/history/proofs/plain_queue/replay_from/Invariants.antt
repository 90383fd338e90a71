use Rattle.std.proofs.Common.{◌<◌, ◌≡◌, ℕ, take}
use Rattle.events.specs.Replay.{IsRightAt, queue_after}
use Rattle.history.proofs.plain_queue.replay_from.Given as goal

abbrev pub invariant-loop-i : goal.invariant-loop-i
invariant-loop-i l = record {
  queue : l.queue.items ≡ queue_after l.events.items l.base (take l.i l.entries);
  right : (k : ℕ) → k < l.i → IsRightAt l.events.items l.base l.entries k;
}
