use Rattle.std.proofs.Common.{subst}
use Rattle.session.specs.Sessions.{Sessioned}
use Rattle.session.specs.Telling.{IsSettledTold}
use Rattle.session.proofs.answers.Settled.{settled_told}
use Rattle.session.proofs.session.Session.tells_settled.Goals as goal

pub returns : goal.returns
returns c =
    subst (λ (s : Sessioned). IsSettledTold s) c.self.view_is
    (λ slot w client number reply here log few settled. settled_told _ slot w client number reply c.self.invariant here log few settled)
