use Rattle.std.proofs.Common.{◌≡◌, ◌++◌}
use Rattle.explore.proofs.Sweeps.{points_in}
use Rattle.explore.proofs.sweep.joined.Given as goal

-- the points so far, and those of the pieces that are left, are all
abbrev pub invariant-loop-piece : goal.invariant-loop-piece
invariant-loop-piece l = l.points.items ++ points_in l.piece-iterator.rest.items ≡ points_in l.fn.pieces.items
