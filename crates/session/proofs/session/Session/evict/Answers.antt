use Rattle.std.proofs.Common.{ap}
use Rattle.named.specs.Brokers.{Brokered}
use Rattle.session.specs.SessionView.{session_view}
use Rattle.session.proofs.downtime.Crashes.{right_evicted}
use Rattle.session.proofs.answers.Promises.{numbers_kept}
use Rattle.session.proofs.calls.Queues.{downtime_on}
use Rattle.session.proofs.session.Session.evict.Goals as goal

pub invariant_of-self : goal.invariant_of-self
invariant_of-self c =
    right_evicted (session_view c.self.inside) c.evict.new.self c.args.word
    c.self.invariant c.evict.ensures.promises.well (ap (λ (b : Brokered). b.recovery) c.evict.ensures.same)
    c.evict.ensures.worlds

pub returns-clause-promises : goal.returns-clause-promises
returns-clause-promises c = numbers_kept _ (invariant_of-self c)

pub returns-clause-downtime : goal.returns-clause-downtime
returns-clause-downtime c = downtime_on _ _ _ c.self.view_is c.evict.ensures.downtime
