use Rattle.std.proofs.Common.{arith, rules}
use Rattle.findings.proofs.Covering.{covered_more}
use Rattle.findings.proofs.judging.covers.Goals as goal

pub loop-i-preserved : goal.loop-i-preserved
loop-i-preserved c = covered_more c.args.pieces.now c.loop-i.i c.args.from c.loop-i.reached c.max-reached.result
    c.index-pieces-i.result (search rules) c.index-pieces-i.is (omega arith) (search rules) c.loop-i.invariant
