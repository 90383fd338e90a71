use Rattle.std.proofs.Common.{rules, ◌≡◌, Option, None, ◌∙◌, ap, arith, length-set}
use Rattle.words.specs.declared.told.Verdict.{Verdict}
use Rattle.session.specs.Keeping.{told_when_asked, verdict_heard}
use Rattle.session.proofs.answers.Places.{one_more_place}
use Rattle.session.proofs.kept.row_told.Goals as goal

pub loop-client-init : goal.loop-client-init
loop-client-init c = search rules

pub loop-client-preserved : goal.loop-client-preserved
loop-client-preserved c = record {
  len = length-set c.loop-client.row c.loop-client.client c.verdict_of.result ∙ c.loop-client.invariant.len;
  promises = λ some. c.told.ensures.promises;
  so_far = one_more_place (λ k (last : Option Verdict). last ≡ told_when_asked c.args.broker.now c.args.slot.0 k)
      c.loop-client.row c.loop-client.client c.verdict_of.result None (omega (arith, c.loop-client-test.true, c.loop-client.invariant.len))
      c.loop-client.invariant.so_far (c.verdict_of.ensures ∙ ap verdict_heard c.told.ensures.told);
}

pub returns-clause-told : goal.returns-clause-told
returns-clause-told c client few = c.loop-client.invariant.so_far client (omega arith)

pub returns-clause-promises : goal.returns-clause-promises
returns-clause-promises c = c.loop-client.invariant.promises (omega (arith, c.loop-client-test.false))
