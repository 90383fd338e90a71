use Rattle.history.proofs.AnswerSteps.{pass_call, pass_other, pass_return, pass_fails}
use Rattle.history.proofs.answering.after_event.Goals as goal

pub returns-then-begins_at-clause-some : goal.returns-then-begins_at-clause-some
returns-then-begins_at-clause-some c = pass_call _ _ _ _ _ _ c.requires.so_far
    (c.begins_at.ensures.begins.0 c.if-begins_at.true)

pub returns-in_default-clause-some : goal.returns-in_default-clause-some
returns-in_default-clause-some c = pass_other _ _ _ _ _ _ c.requires.so_far
    (λ begins. cc (c.begins_at.ensures.begins.1 begins, c.if-begins_at.false)) c.in_default.ensures.none

pub returns-in_default-place_after_entry-clause-none : goal.returns-in_default-place_after_entry-clause-none
returns-in_default-place_after_entry-clause-none c =
    pass_fails _ _ _ _ _ _ _ c.requires.history c.requires.precedence c.requires.so_far c.in-Some.ensures.some
    c.in_default-place_after_entry.ensures.none

pub returns-clause-some : goal.returns-clause-some
returns-clause-some c = pass_return _ _ _ _ _ _ _ _ c.requires.history c.requires.so_far c.in-Some.ensures.some
    c.in-Some-place_after_entry.ensures.some
