use Rattle.std.proofs.Common.{subst}
use Rattle.session.specs.Sessions.{Sessioned}
use Rattle.workers.specs.Moments.{GoesOnLater, latest}
use Rattle.workers.proofs.guard.Laters.{marks_later}
use Rattle.workers.proofs.marks.Marks.is_before.Goals as goal

pub returns-clause-later : goal.returns-clause-later
returns-clause-later g c before =
    let one = c.one.inside.mark.entries in
    let other = c.other.inside.mark.entries in
    subst (λ (s : Sessioned). GoesOnLater s c.args.other) c.one.view_is
    (subst (GoesOnLater (latest one)) c.other.view_is
    (marks_later one other c.one.invariant.1 c.other.invariant.1 (c.is_before-one.ensures.begins before)))
