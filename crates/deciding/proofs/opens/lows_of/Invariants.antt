use Rattle.std.proofs.Common.{◌≡◌, ℕ, ◌<◌, length, get_or}
use Rattle.windows.proofs.Facts.{low}
use Rattle.deciding.specs.Table.{calls_by}
use Rattle.deciding.proofs.opens.lows_of.Given as goal

abbrev pub invariant-loop-put : goal.invariant-loop-put
invariant-loop-put l = (length l.lows.items ≡ l.put)
    × ((v : ℕ) → v < l.put → get_or l.lows.items v 0 ≡ low (calls_by l.known l.ends) v)
