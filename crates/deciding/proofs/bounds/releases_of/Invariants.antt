use Rattle.std.proofs.Common.{◌≡◌, ℕ, ◌<◌, length, get_or}
use Rattle.windows.proofs.Facts.{release}
use Rattle.deciding.specs.Table.{calls_by}
use Rattle.deciding.proofs.bounds.releases_of.Given as goal

abbrev pub invariant-loop-put : goal.invariant-loop-put
invariant-loop-put l = (length l.releases.items ≡ l.put)
    × ((v : ℕ) → v < l.put → get_or l.releases.items v 0 ≡ release (calls_by l.known l.ends) v)
