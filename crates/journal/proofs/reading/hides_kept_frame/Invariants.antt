use Rattle.std.proofs.Common.{◌≡◌, ℕ, ◌<◌, ◌≤◌, true, drop}
use Rattle.journal.specs.Reading.{knows_kept}
use Rattle.journal.proofs.reading.hides_kept_frame.Given as goal

-- there was none so far
abbrev pub invariant-loop-at : goal.invariant-loop-at
invariant-loop-at l = (k : ℕ) → l.place ≤ k → k < l.at → knows_kept l.key l.place k (drop k l.bytes) ≡ true → ⊥
