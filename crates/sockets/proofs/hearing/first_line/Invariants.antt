use Rattle.sockets.specs.Kept.{GoesOn}
use Rattle.sockets.proofs.hearing.first_line.Given as goal

abbrev pub invariant-loop : goal.invariant-loop
invariant-loop l = record { kept : GoesOn l.fn.part.items l.part.items }
