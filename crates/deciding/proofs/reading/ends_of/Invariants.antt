use Rattle.std.proofs.Common.{◌≡◌, ℕ, ◌<◌, length, get_or}
use Rattle.findings.proofs.Offered.{end_at}
use Rattle.deciding.proofs.reading.ends_of.Given as goal

abbrev pub invariant-loop-place : goal.invariant-loop-place
invariant-loop-place l = (length l.ends.items ≡ l.place)
    × ((v : ℕ) → v < l.place → get_or l.ends.items v 0 ≡ end_at l.findings.events v)
