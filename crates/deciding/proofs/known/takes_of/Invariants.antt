use Rattle.std.proofs.Common.{◌≡◌, ℕ, ◌<◌, length, get_or}
use Rattle.windows.proofs.Facts.{take_of}
use Rattle.deciding.specs.Table.{calls_by}
use Rattle.deciding.proofs.known.takes_of.Given as goal

abbrev pub invariant-loop-put : goal.invariant-loop-put
invariant-loop-put l = (length l.takes.items ≡ l.put)
    × ((v : ℕ) → v < l.put → get_or l.takes.items v 0 ≡ take_of (calls_by l.known l.ends) v)
