use Rattle.std.proofs.Common.{arith}
use Rattle.devices.proofs.Writes.{more_written}
use Rattle.devices.proofs.transfer.write_all.Goals as goal

pub loop-rest-preserved : goal.loop-rest-preserved
loop-rest-preserved g c = record {
  failures = omega (arith, c.in_ok-n.ensures.failures, c.loop-rest.invariant.failures);
  written = rw c.split_at.ensures.back (more_written c.in_ok-n.n c.args.bytes.now c.loop-rest.rest.now _ _ _ c.loop-rest.invariant.written c.in_ok-n.ensures.bytes);
}
