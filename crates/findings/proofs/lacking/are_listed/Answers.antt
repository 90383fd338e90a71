use Rattle.std.proofs.Common.{below_more, rules, arith}
use Rattle.findings.proofs.Listing.{listed_all}
use Rattle.findings.proofs.lacking.are_listed.Goals as goal

pub loop-k-preserved : goal.loop-k-preserved
loop-k-preserved c = below_more _ _ c.loop-k.invariant (c.is_listed.ensures c.if-not-is_listed.false)

pub returns : goal.returns
returns c = λ yes. listed_all _ _ _ _ _ _ c.min-k-end.result (search rules) (λ k lt. c.loop-k.invariant k (omega arith))
