use Rattle.std.proofs.Common.{arith}
use Rattle.deciding.specs.Table.{calls_by}
use Rattle.deciding.proofs.Limits.{limit_all}
use Rattle.deciding.proofs.bounds.limit_of.Goals as goal

pub returns : goal.returns
returns c = limit_all (calls_by c.args.known.now c.args.ends.now) c.args.put c.loop-other.other c.loop-other.limit
    c.requires.calls (omega arith) c.loop-other.invariant
