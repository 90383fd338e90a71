use Rattle.std.proofs.Common.{rules, ◌≡◌, Ok, refl, ap, subst, ◌∙◌}
use Rattle.words.specs.declared.call.Kind.TheVariants.{Durable as durable_kind}
use Rattle.words.specs.PlainQueue.{Value, FitsValue}
use Rattle.words.specs.declared.call.Call.TheVariants.{Enq}
use Rattle.protocol.specs.Machine.{FitsCall}
use Rattle.interleave.proofs.Facts.{call_fits}
use Rattle.session.specs.SessionView.{session_view}
use Rattle.session.specs.Keeping.{SessionGoesOn}
use Rattle.session.specs.Requests.{request_admission}
use Rattle.session.specs.Sessions.{Sessioned}
use Rattle.session.proofs.answers.Promises.{numbers_kept, numbers_shown}
use Rattle.session.proofs.calls.Requests.{plain_run_right}
use Rattle.session.proofs.calls.Clients.{goes_on_kept, laid_out_each, laid_out_run, others_run}
use Rattle.named.proofs.Facts.{broker_stays}
use Rattle.session.proofs.calls.Queues.{queues_on}
use Rattle.session.proofs.session.Session.plain.Goals as goal

pub returns-clause-goes_on : goal.returns-clause-goes_on
returns-clause-goes_on c =
    let old : Sessioned = session_view c.self.inside in
    let new : Sessioned = record { broker = c.run.new.broker; kept = c.self.inside.kept } in
    subst (λ (s : Sessioned). SessionGoesOn s new) c.self.view_is
    (goes_on_kept old new refl (laid_out_each c.self.inside.broker c.run.new.broker c.args.queue.0
    (others_run c.self.inside.broker c.run.new.broker c.args.queue.0 c.args.client 0 c.args.call c.run.result c.run.ensures.run).others
    (laid_out_run c.self.inside.broker c.run.new.broker c.args.queue.0 c.args.client 0 c.args.call c.run.result c.run.ensures.run)))

pub returns-in_err-admit-clause-promises : goal.returns-in_err-admit-clause-promises
returns-in_err-admit-clause-promises c = numbers_shown _ _ c.self.invariant c.self.view_is

pub invariant_of-self : goal.invariant_of-self
invariant_of-self c =
    let value : (v : Value) → c.args.call ≡ Enq v → FitsValue v = search rules in
    let fits : FitsCall c.args.call = call_fits c.args.call value in
    let admitted : request_admission durable_kind c.args.self.now.broker c.args.queue.0 c.args.client ≡ Ok tt = search rules in
    let here : request_admission durable_kind c.self.inside.broker c.args.queue.0 c.args.client ≡ Ok tt =
    ap (λ (s : Sessioned). request_admission durable_kind s.broker c.args.queue.0 c.args.client) c.self.view_is ∙ admitted in
    plain_run_right c.self.inside.broker c.run.new.broker c.args.queue.0 c.args.client c.args.call c.self.inside.kept
    c.self.invariant c.run.ensures.promises.well fits here c.run.result c.run.ensures.run

pub returns-clause-promises : goal.returns-clause-promises
returns-clause-promises c = numbers_kept _ (invariant_of-self c)

pub returns-in_err-admit-clause-queues : goal.returns-in_err-admit-clause-queues
returns-in_err-admit-clause-queues c = broker_stays _

pub returns-clause-queues : goal.returns-clause-queues
returns-clause-queues c = queues_on _ _ _ c.self.view_is c.run.ensures.goes_on
