use Rattle.std.proofs.Common.{◌≡◌}
use Rattle.std.specs.Io.KnownBytes.{Consumes}
use Rattle.devices.proofs.transfer.read_all.Given as goal

-- no read failed so far, and the bytes that were read are those that came in
abbrev pub invariant-loop : goal.invariant-loop
invariant-loop g l = record {
  failures : g.R.Reader.failures l.reader ≡ g.R.Reader.failures l.fn.reader;
  read : Consumes (g.R.Reader.left l.fn.reader) (g.R.Reader.left l.reader) l.bytes.items;
}
