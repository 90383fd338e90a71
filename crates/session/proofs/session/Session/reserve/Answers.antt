use Rattle.session.proofs.answers.Promises.{numbers_kept}
use Rattle.session.proofs.brokers.Histories.{alike_right}
use Rattle.session.proofs.calls.Queues.{queues_on}
use Rattle.session.proofs.session.Session.reserve.Goals as goal

pub returns-clause-promises : goal.returns-clause-promises
returns-clause-promises c =
    numbers_kept _
    (alike_right c.self.inside.broker c.reserve.new.self c.self.inside.kept c.self.invariant c.reserve.ensures.promises.well
    c.reserve.ensures.recovery c.reserve.ensures.worlds)

pub returns-clause-queues : goal.returns-clause-queues
returns-clause-queues c = queues_on _ _ _ c.self.view_is c.reserve.ensures.goes_on
