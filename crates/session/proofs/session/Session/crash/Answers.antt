use Rattle.std.proofs.Common.{◌≡◌, Result, Ok, Err, refl, subst}
use Rattle.std.specs.Prelude.{OnErr}
use Rattle.words.specs.declared.refusal.Refusal.{Refusal}
use Rattle.named.specs.Stopping.{IsSameButRoom}
use Rattle.session.specs.SessionView.{session_view}
use Rattle.session.specs.Sessions.{IsRight, Sessioned}
use Rattle.session.proofs.downtime.Crashes.{right_roomier, right_stopped}
use Rattle.session.proofs.answers.Promises.{numbers_kept}
use Rattle.session.proofs.calls.Queues.{downtime_on, queues_on}
use Rattle.session.proofs.session.Session.crash.Goals as goal

pub invariant_of-self : goal.invariant_of-self
invariant_of-self c =
    let s : Sessioned = session_view c.self.inside in
    let go : (r : Result Unit Refusal) → c.crash.result ≡ r → IsRight (record s { broker = c.crash.new.self }) = elim [
      | Ok u ↦ λ is.
          right_stopped s c.crash.new.self c.self.invariant c.crash.ensures.promises.well (c.crash.ensures.stopped is)
      | Err refusal ↦ λ is.
          right_roomier s c.crash.new.self c.self.invariant c.crash.ensures.promises.well
          (subst (λ (r : Result Unit Refusal). OnErr r (IsSameButRoom s.broker c.crash.new.self)) is
          c.crash.ensures.same)
    ] in
    go c.crash.result refl

pub returns-clause-promises : goal.returns-clause-promises
returns-clause-promises c = numbers_kept _ (invariant_of-self c)

pub returns-clause-queues : goal.returns-clause-queues
returns-clause-queues c = queues_on _ _ _ c.self.view_is c.crash.ensures.goes_on

pub returns-clause-downtime : goal.returns-clause-downtime
returns-clause-downtime c = λ ok. downtime_on _ _ _ c.self.view_is (c.crash.ensures.downtime ok)
