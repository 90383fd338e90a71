use Rattle.std.proofs.Common.{subst}
use Rattle.persist.specs.Noted.{answer_in}
use Rattle.session.specs.Keeping.{SessionGoesOn}
use Rattle.session.specs.Sessions.{Sessioned}
use Rattle.session.proofs.answers.Promises.{numbers_kept}
use Rattle.session.proofs.brokers.Histories.{creation_on, creation_right}
use Rattle.session.proofs.calls.Queues.{queues_on}
use Rattle.session.proofs.session.Session.create_step_noted.Goals as goal

pub invariant_of-self : goal.invariant_of-self
invariant_of-self c =
    creation_right c.self.inside.broker c.create_step_noted.new.self c.self.inside.kept c.self.invariant (answer_in c.create_step_noted.result)
    c.create_step_noted.ensures.promises.well c.create_step_noted.ensures.down c.create_step_noted.ensures.idle c.create_step_noted.ensures.same
    c.create_step_noted.ensures.step c.create_step_noted.ensures.others

pub returns-clause-promises : goal.returns-clause-promises
returns-clause-promises c = numbers_kept _ (invariant_of-self c)

pub returns-clause-goes_on : goal.returns-clause-goes_on
returns-clause-goes_on c =
    subst (λ (s : Sessioned). SessionGoesOn s (record { broker = c.create_step_noted.new.self; kept = c.self.inside.kept })) c.self.view_is
    (creation_on c.self.inside.broker c.create_step_noted.new.self c.self.inside.kept c.self.invariant (answer_in c.create_step_noted.result)
    c.create_step_noted.ensures.down c.create_step_noted.ensures.idle c.create_step_noted.ensures.same c.create_step_noted.ensures.step
    c.create_step_noted.ensures.others)

pub returns-clause-queues : goal.returns-clause-queues
returns-clause-queues c = queues_on _ _ _ c.self.view_is c.create_step_noted.ensures.goes_on
