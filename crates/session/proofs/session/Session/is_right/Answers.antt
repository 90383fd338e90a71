use Rattle.std.proofs.Common.{subst}
use Rattle.session.specs.Sessions.{IsRight}
use Rattle.session.proofs.session.Session.is_right.Goals as goal

pub returns : goal.returns
returns c = subst IsRight c.self.view_is c.self.invariant
