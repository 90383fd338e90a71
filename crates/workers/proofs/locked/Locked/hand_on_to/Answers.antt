use Rattle.std.proofs.Common.{sym, subst}
use Rattle.workers.specs.Moments.{GoesOnLater, HandedOn}
use Rattle.workers.proofs.guard.Laters.{later_itself}
use Rattle.workers.proofs.locked.Locked.hand_on_to.Goals as goal

pub returns-then-has-clause-later : goal.returns-then-has-clause-later
returns-then-has-clause-later g c =
    subst (λ (h : HandedOn). GoesOnLater c.args.handed.last h.last) (sym c.has_handed-handed.ensures.hander)
    (later_itself c.args.handed.last)
