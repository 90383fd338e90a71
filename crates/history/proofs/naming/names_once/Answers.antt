use Rattle.std.proofs.Common.{below_more, rules, arith}
use Rattle.history.proofs.Ascending.{ascends_from_new, new_from_ascends}
use Rattle.history.proofs.naming.names_once.Goals as goal

pub returns-then-not-ascends : goal.returns-then-not-ascends
returns-then-not-ascends c = (
  search rules,
  λ once. cc (
    c.ascends.ensures.1 (ascends_from_new _ _ c.requires.history c.requires.precedence once _),
    c.if-not-ascends.true,
  ),
)

pub loop-t-preserved : goal.loop-t-preserved
loop-t-preserved c = below_more _ _ c.loop-t.invariant (search rules)

pub returns : goal.returns
returns c = (
  λ _. new_from_ascends _ _ c.requires.history c.requires.names
      (λ client small. c.loop-t.invariant client.0 (omega (arith, small, c.loop-t-test.false))),
  search rules,
)
