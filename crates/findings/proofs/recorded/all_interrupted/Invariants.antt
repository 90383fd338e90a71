use Rattle.std.proofs.Common.{ℕ, ◌<◌}
use Rattle.words.specs.declared.told.Outcome.{Outcome}
use Rattle.findings.specs.Filling.{IsInterrupted}
use Rattle.findings.specs.Findings.{IsLearnt}
use Rattle.findings.proofs.recorded.all_interrupted.Given as goal

abbrev pub invariant-loop-p : goal.invariant-loop-p
invariant-loop-p l = (k : ℕ) (outcome : Outcome) → k < l.p → IsLearnt l.findings.learnt k outcome
    → IsInterrupted l.findings.events k
