use Rattle.std.proofs.Common.{below_more}
use Rattle.findings.proofs.of_queue.all_have_fitting_replies.Goals as goal

pub loop-p-preserved : goal.loop-p-preserved
loop-p-preserved c = below_more _ _ c.loop-p.invariant (c.has_fitting_reply.ensures c.if-not-has_fitting_reply.false)
