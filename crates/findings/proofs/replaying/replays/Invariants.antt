use Rattle.std.proofs.Common.{[], ◌<◌, ◌≡◌, ℕ, take}
use Rattle.events.specs.Replay.{IsRightAt, queue_after}
use Rattle.findings.proofs.replaying.replays.Given as goal

abbrev pub invariant-loop-i : goal.invariant-loop-i
invariant-loop-i l = record {
  queue : l.queue.items ≡ queue_after l.findings.events [] (take l.i l.entries);
  right : (k : ℕ) → k < l.i → IsRightAt l.findings.events [] l.entries k;
}
