use Rattle.std.proofs.Common.{below_more, rules, arith}
use Rattle.history.proofs.Ascending.{ascends_from_new}
use Rattle.history.proofs.HearSteps.{tells_from_clients, clients_from_tells}
use Rattle.history.proofs.hearing.all_told.Goals as goal

pub is_told_of_all-requires-clause-ascends : goal.is_told_of_all-requires-clause-ascends
is_told_of_all-requires-clause-ascends c = ascends_from_new _ _ c.requires.history c.requires.precedence
    c.requires.once _

pub returns-then-not-is_told_of_all-clause-told : goal.returns-then-not-is_told_of_all-clause-told
returns-then-not-is_told_of_all-clause-told c = (
  search rules,
  λ tells. cc (
    c.is_told_of_all.ensures.told.1
        (clients_from_tells _ _ _ _ _ tells),
    c.if-not-is_told_of_all.true,
  ),
)

pub loop-t-preserved : goal.loop-t-preserved
loop-t-preserved c = record {
  told = below_more _ _ c.loop-t.invariant.told (c.is_told_of_all.ensures.told.0 c.if-not-is_told_of_all.false);
  sixteen = λ _. c.is_told_of_all.ensures.sixteen c.if-not-is_told_of_all.false;
}

pub returns-clause-told : goal.returns-clause-told
returns-clause-told c = (
  λ _. tells_from_clients _ _ _ _ (c.loop-t.invariant.sixteen (omega (arith, c.loop-t-test.false)))
      (λ client small. c.loop-t.invariant.told client.0 (omega (arith, small, c.loop-t-test.false))),
  search rules,
)
