use Rattle.std.proofs.Common.{◌≡◌, ℕ, ◌<◌, length, get_or}
use Rattle.windows.proofs.Facts.{limit}
use Rattle.deciding.specs.Table.{calls_by}
use Rattle.deciding.proofs.bounds.limits_of.Given as goal

abbrev pub invariant-loop-put : goal.invariant-loop-put
invariant-loop-put l = (length l.limits.items ≡ l.put)
    × ((v : ℕ) → v < l.put → get_or l.limits.items v 0 ≡ limit (calls_by l.known l.ends) v)
