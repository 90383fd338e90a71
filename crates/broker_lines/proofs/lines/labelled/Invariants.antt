use Rattle.std.proofs.Common.{◌≡◌}
use Rattle.broker_lines.specs.Lines.{of_queue}
use Rattle.broker_lines.proofs.lines.labelled.Given as goal

-- the lines so far have the name
abbrev pub invariant-loop-line : goal.invariant-loop-line
invariant-loop-line l = l.printed.items ≡ of_queue l.name l.yielded
