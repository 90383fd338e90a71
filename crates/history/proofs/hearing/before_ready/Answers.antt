use Rattle.history.proofs.HearSteps.{progress_at, progress_end, progress_all}
use Rattle.history.proofs.hearing.before_ready.Goals as goal

pub returns-then-is_later-clause-progress : goal.returns-then-is_later-clause-progress
returns-then-is_later-clause-progress c = progress_at _ _ _ _ _ _ _ _ c.requires.ascends c.loop-i.invariant.so_far
    (c.is_later.ensures.0 c.if-is_later.true)

pub returns-clause-so_far : goal.returns-clause-so_far
returns-clause-so_far c = progress_all _ _ _ _ _ _ _ _ c.loop-i-test.false
    (c.loop-i.auto.i-end c.requires.entries) c.loop-i.invariant.so_far

pub returns-clause-progress : goal.returns-clause-progress
returns-clause-progress c = progress_end _ _ _ _ _ _ _ _ c.loop-i-test.false c.loop-i.invariant.so_far
