use Rattle.std.proofs.Common.{ℕ, ◌<◌}
use Rattle.events.specs.Explains.{IsAnswered}
use Rattle.findings.proofs.agreeing.all_answered.Given as goal

abbrev pub invariant-loop-p : goal.invariant-loop-p
invariant-loop-p l = (j : ℕ) → j < l.p → IsAnswered l.findings.events l.entries j
