use Rattle.std.proofs.Common.{refl, subst}
use Rattle.interleave.specs.Calls.{is_no_memory}
use Rattle.interleave.specs.State.{after_start}
use Rattle.named.proofs.Facts.{start_alike}
use Rattle.session.specs.SessionView.{session_view}
use Rattle.session.specs.Keeping.{SessionGoesOn}
use Rattle.session.specs.Requests.{as_begun}
use Rattle.session.specs.Sessions.{Sessioned}
use Rattle.session.proofs.calls.Clients.{goes_on_kept, laid_out_act}
use Rattle.session.proofs.calls.Queues.{queues_on}
use Rattle.session.proofs.answers.Promises.{numbers_kept}
use Rattle.session.proofs.calls.Requests.{started_right}
use Rattle.session.proofs.calls.Starts.{started_by}
use Rattle.session.proofs.session.Session.start.Goals as goal

pub invariant_of-self : goal.invariant_of-self
invariant_of-self c =
    started_right c.self.inside.broker c.start.new.self c.args.queue.0 c.args.client c.args.number c.args.call
    c.self.inside.kept (as_begun c.start.result) c.self.invariant c.start.ensures.promises.well
    (started_by c.self.inside.broker c.start.new.self c.args.queue.0 c.args.client c.args.number c.args.call
    c.start.result c.start.ensures.act c.start.ensures.beside)

pub returns-clause-promises : goal.returns-clause-promises
returns-clause-promises c = numbers_kept _ (invariant_of-self c)

pub returns-clause-queues : goal.returns-clause-queues
returns-clause-queues c = queues_on _ _ _ c.self.view_is c.start.ensures.goes_on

pub returns-clause-goes_on : goal.returns-clause-goes_on
returns-clause-goes_on c =
    let old : Sessioned = session_view c.self.inside in
    let new : Sessioned = record { broker = c.start.new.self; kept = c.self.inside.kept } in
    subst (λ (s : Sessioned). SessionGoesOn s new) c.self.view_is
    (goes_on_kept old new refl
    (laid_out_act (λ w. after_start (is_no_memory c.start.result) w c.args.client c.args.number c.args.call)
    (λ w. (start_alike (is_no_memory c.start.result) w c.args.client c.args.number c.args.call).0)
    old.broker new.broker c.args.queue.0 c.args.client c.start.ensures.act.world c.start.ensures.beside.others))
