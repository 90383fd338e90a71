use Rattle.std.proofs.Common.{◌≡◌, ◌++◌, drop, map}
use Rattle.std.specs.List.{concat}
use Rattle.broker_points.specs.Sweep.{text_of}
use Rattle.broker_points.proofs.reports.lines_text.Given as goal

-- the lines so far, and those of the points that are left, are all
abbrev pub invariant-loop-point : goal.invariant-loop-point
invariant-loop-point l = l.text.items ++ concat (map text_of (drop l.point-index l.points)) ≡ concat (map text_of l.points)
