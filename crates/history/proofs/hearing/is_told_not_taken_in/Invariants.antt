use Rattle.std.proofs.Common.{◌<◌, ◌≤◌, ℕ}
use Rattle.history.specs.Hearing.{IsToldNotTaken}
use Rattle.history.proofs.hearing.is_told_not_taken_in.Given as goal

abbrev pub invariant-loop-p : goal.invariant-loop-p
invariant-loop-p l = (k : ℕ) → k < l.p → l.from ≤ k
    → IsToldNotTaken l.who.kind l.who.events.now.items l.who.client l.told k → ⊥
