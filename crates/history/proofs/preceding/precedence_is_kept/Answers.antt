use Rattle.std.proofs.Common.{below_more, rules, arith}
use Rattle.history.proofs.Greatest.{greatest_more}
use Rattle.history.proofs.Converting.{keeps_from_each, each_from_keeps}
use Rattle.history.proofs.preceding.precedence_is_kept.Goals as goal

pub returns : goal.returns
returns c = (λ _. keeps_from_each _ _ (λ i lt. c.loop-i.invariant.kept i (omega arith)), λ _. search rules)

pub returns-then-not-precedes_none : goal.returns-then-not-precedes_none
returns-then-not-precedes_none c = (search rules, λ keeps. search (rules, each_from_keeps _ _ keeps c.loop-i.i))

pub loop-i-preserved : goal.loop-i-preserved
loop-i-preserved c = record {
  greatest = greatest_more _ _ _ _ _ c.loop-i-test.true c.loop-i.invariant.greatest c.greater-greatest.ensures.first
      c.greater-greatest.ensures.second c.greater-greatest.ensures.one;
  kept = below_more _ _ c.loop-i.invariant.kept (c.precedes_none.ensures.0 c.if-not-precedes_none.false);
}
