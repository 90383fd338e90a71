use Rattle.std.proofs.Common.{ℕ, ◌<◌}
use Rattle.findings.specs.Shows.{IsListed}
use Rattle.findings.proofs.lacking.are_listed.Given as goal

abbrev pub invariant-loop-k : goal.invariant-loop-k
invariant-loop-k l = (j : ℕ) → j < l.k → IsListed l.findings.events l.findings.learnt l.puts l.takes l.since j
