use Rattle.std.proofs.Common.{◌≡◌, length}
use Rattle.devices.proofs.Writes.{HasWritten}
use Rattle.devices.proofs.transfer.write_all.Given as goal

-- no write failed so far, and the bytes before the rest were written
abbrev pub invariant-loop-rest : goal.invariant-loop-rest
invariant-loop-rest g l = record {
  failures : g.W.Writer.failures l.writer ≡ g.W.Writer.failures l.fn.writer;
  written : HasWritten l.bytes l.rest (g.W.Writer.written l.fn.writer) (g.W.Writer.written l.writer);
}

abbrev pub decreases-loop-rest : goal.decreases-loop-rest
decreases-loop-rest g l = length l.rest
