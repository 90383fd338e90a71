use Rattle.std.proofs.Common.{below_more, rules, arith}
use Rattle.history.proofs.arising.all_in_turn.Goals as goal

pub loop-t-preserved : goal.loop-t-preserved
loop-t-preserved c = below_more _ _ c.loop-t.invariant (search rules)

pub returns : goal.returns
returns c = (λ _ client small. c.loop-t.invariant client.0 (omega (arith, small, c.loop-t-test.false)), search rules)
