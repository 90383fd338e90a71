use Rattle.std.proofs.Common.{ℕ, ◌≤◌, ◌<◌}
use Rattle.findings.specs.Shows.{IsCovered}
use Rattle.findings.proofs.judging.covers.Given as goal

abbrev pub invariant-loop-i : goal.invariant-loop-i
invariant-loop-i l = (m : ℕ) → l.from ≤ m → m < l.reached → IsCovered l.pieces m
