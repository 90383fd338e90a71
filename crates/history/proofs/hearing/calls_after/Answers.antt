use Rattle.history.proofs.HearSteps.{no_call_more}
use Rattle.history.proofs.hearing.calls_after.Goals as goal

pub returns-else-begins_told-clause-later : goal.returns-else-begins_told-clause-later
returns-else-begins_told-clause-later c = no_call_more _ _ _ _ _ c.requires.later
    (λ begins. cc (c.begins_told.ensures.begins.1 begins, c.if-begins_told.false))
