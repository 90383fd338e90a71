use Rattle.session.proofs.answers.Promises.{numbers_kept}
use Rattle.session.proofs.brokers.Histories.{created_right}
use Rattle.session.proofs.calls.Queues.{queues_on}
use Rattle.session.proofs.session.Session.create.Goals as goal

pub returns-clause-promises : goal.returns-clause-promises
returns-clause-promises c =
    numbers_kept _
    (created_right c.self.inside.broker c.create.new.self c.self.inside.kept c.self.invariant c.create.result
    c.create.ensures.promises c.create.ensures.same c.create.ensures.others)

pub returns-clause-queues : goal.returns-clause-queues
returns-clause-queues c = queues_on _ _ _ c.self.view_is c.create.ensures.goes_on
