use Rattle.std.proofs.Common.{◌≡◌, ℕ, ◌<◌, length, get_or}
use Rattle.windows.proofs.Facts.{high}
use Rattle.deciding.specs.Table.{calls_by}
use Rattle.deciding.proofs.opens.highs_of.Given as goal

abbrev pub invariant-loop-put : goal.invariant-loop-put
invariant-loop-put l = (length l.highs.items ≡ l.put)
    × ((v : ℕ) → v < l.put → get_or l.highs.items v 0 ≡ high (calls_by l.known l.ends) v)
