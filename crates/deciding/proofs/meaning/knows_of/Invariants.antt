use Rattle.std.proofs.Common.{ℕ, ◌≡◌, ◌<◌, length, get_or}
use Rattle.findings.proofs.Offered.{Means}
use Rattle.deciding.specs.declared.known.Knows.TheVariants.{NoCall}
use Rattle.deciding.specs.Table.{known_of}
use Rattle.deciding.proofs.meaning.knows_of.Given as goal

abbrev pub invariant-loop-place : goal.invariant-loop-place
invariant-loop-place l = (length l.known.items ≡ l.place)
    × ((p : ℕ) → p < l.place → Means l.findings.events l.findings.learnt p (known_of (get_or l.known.items p NoCall)))
