use Rattle.session.proofs.answers.Promises.{numbers_shown}
use Rattle.session.proofs.session.Session.broker.Goals as goal

pub returns-clause-promises : goal.returns-clause-promises
returns-clause-promises c = numbers_shown _ _ c.self.invariant c.self.view_is
