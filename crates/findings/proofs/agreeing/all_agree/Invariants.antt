use Rattle.std.proofs.Common.{ℕ, ◌<◌}
use Rattle.findings.specs.Agreeing.{AgreesAt}
use Rattle.findings.proofs.agreeing.all_agree.Given as goal

abbrev pub invariant-loop-p : goal.invariant-loop-p
invariant-loop-p l = (j : ℕ) → j < l.p → AgreesAt l.findings.learnt l.entries j
