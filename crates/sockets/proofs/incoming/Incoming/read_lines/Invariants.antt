use Rattle.std.proofs.Common.{◌≡◌}
use Rattle.sockets.proofs.incoming.Incoming.read_lines.Given as goal

abbrev pub invariant-loop : goal.invariant-loop
invariant-loop l = record { failures : l.self.failures ≡ l.fn.self.failures }
