use Rattle.std.proofs.Common.{below_more, arith, rules, refl}
use Rattle.findings.proofs.Tables.{agrees_all, agrees_each}
use Rattle.findings.proofs.agreeing.all_agree.Goals as goal

pub loop-p-preserved : goal.loop-p-preserved
loop-p-preserved c = below_more _ _ c.loop-p.invariant (c.agrees_at.ensures.0 c.if-not-agrees_at.false)

pub returns : goal.returns
returns c = (λ yes. agrees_all _ _ c.loop-p.p (omega arith) c.loop-p.invariant, λ agrees. refl)

pub returns-then-not-agrees_at : goal.returns-then-not-agrees_at
returns-then-not-agrees_at c = (λ yes. cc, λ agrees. search (rules, agrees_each _ _ agrees))
