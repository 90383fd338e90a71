use Rattle.std.proofs.Common.{below_more}
use Rattle.findings.proofs.agreeing.all_answered.Goals as goal

pub loop-p-preserved : goal.loop-p-preserved
loop-p-preserved c = below_more _ _ c.loop-p.invariant (c.is_answered.ensures.0 c.if-not-is_answered.false)
