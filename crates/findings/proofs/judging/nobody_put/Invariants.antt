use Rattle.std.proofs.Common.{ℕ, ◌<◌}
use Rattle.findings.specs.Findings.{PutsAt}
use Rattle.findings.specs.Shows.{IsNoSource}
use Rattle.findings.proofs.judging.nobody_put.Given as goal

abbrev pub invariant-loop-k : goal.invariant-loop-k
invariant-loop-k l = (j : ℕ) → j < l.k → PutsAt l.findings.events j l.value → IsNoSource l.findings.events l.findings.learnt l.take j
