use Rattle.std.proofs.Common.{below_more, rules, arith}
use Rattle.history.proofs.AnswerSteps.{answered_from_clients, answered_of_client}
use Rattle.history.proofs.answering.all_answered.Goals as goal

pub returns-then-not-is_answered_of : goal.returns-then-not-is_answered_of
returns-then-not-is_answered_of c = (
  search rules,
  λ each. cc
      (c.is_answered_of.ensures.1 (answered_of_client _ _ _ each), c.if-not-is_answered_of.true),
)

pub loop-t-preserved : goal.loop-t-preserved
loop-t-preserved c = below_more _ _ c.loop-t.invariant (search rules)

pub returns : goal.returns
returns c = (
  λ _. answered_from_clients _ _ c.requires.history
      (λ client small. c.loop-t.invariant client.0 (omega (arith, small, c.loop-t-test.false))),
  search rules,
)
