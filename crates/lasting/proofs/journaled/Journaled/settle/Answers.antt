use Rattle.std.proofs.Common.{sym, subst}
use Rattle.session.specs.Sessions.{Sessioned}
use Rattle.workers.specs.Moments.{GoesOnLater}
use Rattle.workers.proofs.Facts.{later_itself}
use Rattle.lasting.proofs.journaled.Journaled.settle.Goals as goal

pub returns-in-Err-clause-later : goal.returns-in-Err-clause-later
returns-in-Err-clause-later g c =
    subst (λ (s : Sessioned). GoesOnLater c.args.self.last s) (sym c.append_pending.ensures.last)
    (later_itself c.args.self.last)
