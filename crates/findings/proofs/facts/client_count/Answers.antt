use Rattle.std.proofs.Common.{arith}
use Rattle.findings.proofs.Ending.{below_more, below_all}
use Rattle.findings.proofs.facts.client_count.Goals as goal

pub loop-p-preserved : goal.loop-p-preserved
loop-p-preserved c = below_more _ _ _ _ _ c.at.ensures c.clients_with-count.ensures.more
    c.clients_with-count.ensures.below c.loop-p.invariant

pub returns : goal.returns
returns c = below_all _ _ _ (omega (arith, c.loop-p-test.false, c.len-p-end.ensures.events)) c.loop-p.invariant
