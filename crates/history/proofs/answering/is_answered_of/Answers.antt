use Rattle.std.proofs.Common.{rules, arith}
use Rattle.history.proofs.AnswerSteps.{pass_all}
use Rattle.history.proofs.answering.is_answered_of.Goals as goal

pub returns : goal.returns
returns c = (
  λ _. pass_all _ _ _ _ _ _ (omega (arith, c.loop-k-test.false, c.len-k-end.ensures)) c.loop-k.invariant,
  search rules,
)
