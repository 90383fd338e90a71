use Rattle.std.proofs.Common.{◌≡◌, ◌≤◌}
use Rattle.std.proofs.Common.{ltb}
use Rattle.windows.specs.Counting.{how_many}
use Rattle.windows.proofs.Facts.{begin_of}
use Rattle.deciding.specs.Table.{calls_by}
use Rattle.deciding.proofs.opens.count_begun.Given as goal

abbrev pub invariant-loop-number : goal.invariant-loop-number
invariant-loop-number l = (l.count ≡ how_many (λ k. ltb (begin_of (calls_by l.known l.ends) k) l.place) l.number)
    × (l.count ≤ l.number)
