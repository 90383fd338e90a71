use Rattle.std.proofs.Common.{ℕ, ◌<◌}
use Rattle.findings.specs.Findings.{PutsAt}
use Rattle.deciding.proofs.reading.find_put.Given as goal

abbrev pub invariant-loop-place : goal.invariant-loop-place
invariant-loop-place l = (place : ℕ) → place < l.place → PutsAt l.findings.events place l.value → ⊥
