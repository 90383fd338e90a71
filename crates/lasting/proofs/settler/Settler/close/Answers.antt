use Rattle.std.proofs.Common.{subst, sym, ◌∙◌}
use Rattle.workers.specs.Moments.{GoesOnLater}
use Rattle.lasting.specs.Lasting.{EndsAtMomentOf}
use Rattle.lasting.specs.Settling.{Settled}
use Rattle.lasting.proofs.Moments.{on_ok}
use Rattle.lasting.proofs.settler.Settler.close.Goals as goal

pub returns-clause-ends : goal.returns-clause-ends
returns-clause-ends g c =
    on_ok (EndsAtMomentOf g.J.Naming.first c.close-session.result.0 c.close-session.result.1) c.close-session.result.2
    (sym c.is_err.ensures.value ∙ c.if-is_err.false) c.close-session.ensures.ends

pub returns-clause-later : goal.returns-clause-later
returns-clause-later g c =
    subst (λ (s : Settled). GoesOnLater s.kept.last c.close-session.result.0) c.self.view_is
    (on_ok _ c.close-session.result.2 (sym c.is_err.ensures.value ∙ c.if-is_err.false) c.close-session.ensures.later)
