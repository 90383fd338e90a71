use Rattle.std.proofs.Common.{◌≡◌, ◌≤◌}
use Rattle.windows.specs.Counting.{how_many}
use Rattle.windows.specs.Moments.{crowds}
use Rattle.windows.proofs.Facts.{low, missing}
use Rattle.deciding.specs.Right.{calls_in}
use Rattle.deciding.proofs.empties.count_in.Given as goal

abbrev pub invariant-loop-put : goal.invariant-loop-put
invariant-loop-put l = (l.count ≡ how_many (crowds (missing (calls_in l.tables)) (low (calls_in l.tables))
    (calls_in l.tables).end l.from l.place) l.put) × (l.count ≤ l.put)
