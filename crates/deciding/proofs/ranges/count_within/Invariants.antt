use Rattle.std.proofs.Common.{◌≡◌, ◌≤◌}
use Rattle.windows.specs.Counting.{how_many}
use Rattle.windows.specs.Takes.{lies_within}
use Rattle.windows.proofs.Facts.{high, low, missing}
use Rattle.deciding.specs.Right.{calls_in}
use Rattle.deciding.proofs.ranges.count_within.Given as goal

abbrev pub invariant-loop-put : goal.invariant-loop-put
invariant-loop-put l = (l.count ≡ how_many (lies_within (missing (calls_in l.tables)) (low (calls_in l.tables))
    (high (calls_in l.tables)) l.from l.to) l.put) × (l.count ≤ l.put)
