use Rattle.std.proofs.Common.{rules, ◌≡◌, ◌∙◌, inr, Option, None, Result, Ok, Err, Some, refl, sym, ap, subst}
use Rattle.words.specs.declared.call.Kind.TheVariants.{Log as log_kind}
use Rattle.words.specs.PlainQueue.{Value, FitsValue}
use Rattle.words.specs.declared.call.Call.TheVariants.{Enq}
use Rattle.words.specs.declared.call.Reply.{Reply}
use Rattle.words.specs.declared.refusal.Refusal.{Refusal}
use Rattle.words.specs.declared.refusal.Refusal.TheVariants.{StaleNumber}
use Rattle.protocol.specs.Machine.{FitsCall}
use Rattle.interleave.proofs.Facts.{call_fits}
use Rattle.interleave.specs.Verdicts.{taken_as}
use Rattle.session.specs.SessionView.{session_view}
use Rattle.session.specs.Keeping.{SessionGoesOn}
use Rattle.session.specs.Numbers.{by_number}
use Rattle.session.specs.Requests.{IsRun, IsServedBy, IsUnserved, request_admission, request_answer}
use Rattle.session.specs.Sessions.{IsRight, Sessioned, kept_at}
use Rattle.session.proofs.answers.Staleness.{answer_other, unserved_above}
use Rattle.session.proofs.answers.Promises.{numbers_kept, numbers_shown}
use Rattle.session.proofs.calls.Refusing.{passed_on, same_refusal}
use Rattle.session.proofs.calls.Requests.{kept_reply, run_reply, run_right, runs_admitted, unserved_right}
use Rattle.session.proofs.calls.Clients.{goes_on_kept, goes_on_kept_now, laid_out_each, laid_out_run, others_run}
use Rattle.session.proofs.answers.NextNumbers.{answer_runs, answered_below}
use Rattle.named.proofs.Facts.{broker_stays, open_below}
use Rattle.session.proofs.calls.Queues.{queues_on}
use Rattle.session.proofs.session.Session.request.Goals as goal

pub returns-in_err-reply-2-clause-goes_on : goal.returns-in_err-reply-2-clause-goes_on
returns-in_err-reply-2-clause-goes_on c =
    let old : Sessioned = session_view c.self.inside in
    let new : Sessioned = record { broker = c.run.new.broker; kept = c.self.inside.kept } in
    subst (λ (s : Sessioned). SessionGoesOn s new) c.self.view_is
    (goes_on_kept old new refl (laid_out_each old.broker new.broker c.args.queue.0
    (others_run old.broker new.broker c.args.queue.0 c.args.client c.args.number c.args.call c.run.result c.run.ensures.run).others
    (laid_out_run old.broker new.broker c.args.queue.0 c.args.client c.args.number c.args.call c.run.result c.run.ensures.run)))

pub hear-requires-clause-slot : goal.hear-requires-clause-slot
hear-requires-clause-slot c =
    let ran = c.in_ok-reply-2.ensures.run in
    open_below c.self.inside.broker c.self.invariant.well c.args.queue.0 ran.world ran.was

pub returns-clause-goes_on : goal.returns-clause-goes_on
returns-clause-goes_on c =
    let old : Sessioned = session_view c.self.inside in
    let new : Sessioned = record { broker = c.run.new.broker; kept = c.hear.new.self } in
    let answer : request_answer c.args.self.now c.args.queue.0 c.args.client c.args.number ≡ Ok None =
    sym c.in_ok-reply.ensures.answer ∙ ap (λ (o : Option Reply). let r : Result (Option Reply) Refusal = Ok o in r) c.in_default.is in
    let here : request_answer old c.args.queue.0 c.args.client c.args.number ≡ Ok None =
    ap (λ (s : Sessioned). request_answer s c.args.queue.0 c.args.client c.args.number) c.self.view_is ∙ answer in
    let runs : by_number (kept_at old c.args.queue.0 c.args.client) c.args.number ≡ Ok None =
    answer_runs (request_admission log_kind old.broker c.args.queue.0 c.args.client)
    (by_number (kept_at old c.args.queue.0 c.args.client) c.args.number) here in
    subst (λ (s : Sessioned). SessionGoesOn s new) c.self.view_is
    (goes_on_kept_now old new c.args.queue.0 c.args.client (Some (taken_as c.args.number c.in_ok-reply-2.reply)) c.hear.ensures
    (laid_out_each old.broker new.broker c.args.queue.0
    (others_run old.broker new.broker c.args.queue.0 c.args.client c.args.number c.args.call c.run.result c.run.ensures.run).others
    (laid_out_run old.broker new.broker c.args.queue.0 c.args.client c.args.number c.args.call c.run.result c.run.ensures.run))
    (λ was reply answered. inr (answered_below (kept_at old c.args.queue.0 c.args.client) c.args.number was reply runs answered)))

pub returns-in_err-reply-clause-promises : goal.returns-in_err-reply-clause-promises
returns-in_err-reply-clause-promises c = numbers_shown _ _ c.self.invariant c.self.view_is

pub returns-in-Some-clause-promises : goal.returns-in-Some-clause-promises
returns-in-Some-clause-promises c = numbers_shown _ _ c.self.invariant c.self.view_is

pub returns-in-Some-clause-reply : goal.returns-in-Some-clause-reply
returns-in-Some-clause-reply c =
    let answers : request_answer c.args.self.now c.args.queue.0 c.args.client c.args.number ≡ Ok (Some c.in-Some.reply) =
    sym c.in_ok-reply.ensures.answer ∙ ap (λ (o : Option Reply). let r : Result (Option Reply) Refusal = Ok o in r) c.in-Some.is in
    kept_reply c.args.self.now (subst IsRight c.self.view_is c.self.invariant) c.args.queue.0 c.args.client c.args.number
    c.in-Some.reply answers

pub invariant_of-self : goal.invariant_of-self
invariant_of-self c =
    unserved_right c.self.inside.broker c.run.new.broker c.args.queue.0 c.args.client c.args.number c.args.call
    c.self.inside.kept c.in_err-reply-2.field-0.0 c.self.invariant c.run.ensures.promises.well c.in_err-reply-2.ensures.run

pub returns-in_err-reply-2-clause-promises : goal.returns-in_err-reply-2-clause-promises
returns-in_err-reply-2-clause-promises c = numbers_kept _ (invariant_of-self c)

pub invariant_of-self-2 : goal.invariant_of-self-2
invariant_of-self-2 c =
    let value : (v : Value) → c.args.call ≡ Enq v → FitsValue v = search rules in
    let fits : FitsCall c.args.call = call_fits c.args.call value in
    let answer : request_answer c.args.self.now c.args.queue.0 c.args.client c.args.number ≡ Ok None =
    sym c.in_ok-reply.ensures.answer ∙ ap (λ (o : Option Reply). let r : Result (Option Reply) Refusal = Ok o in r) c.in_default.is in
    let here : request_admission log_kind c.self.inside.broker c.args.queue.0 c.args.client ≡ Ok tt =
    ap (λ (s : Sessioned). request_admission log_kind s.broker c.args.queue.0 c.args.client) c.self.view_is
    ∙ runs_admitted c.args.self.now c.args.queue.0 c.args.client c.args.number answer in
    run_right c.self.inside.broker c.run.new.broker c.args.queue.0 c.args.client c.args.call c.self.inside.kept
    c.self.invariant c.run.ensures.promises.well fits c.args.number c.in_ok-reply-2.reply c.hear.new.self here
    c.in_ok-reply-2.ensures.run c.hear.ensures

pub returns-clause-reply : goal.returns-clause-reply
returns-clause-reply c =
    let value : (v : Value) → c.args.call ≡ Enq v → FitsValue v = search rules in
    let fits : FitsCall c.args.call = call_fits c.args.call value in
    let answer : request_answer c.args.self.now c.args.queue.0 c.args.client c.args.number ≡ Ok None =
    sym c.in_ok-reply.ensures.answer ∙ ap (λ (o : Option Reply). let r : Result (Option Reply) Refusal = Ok o in r) c.in_default.is in
    let here : request_admission log_kind c.self.inside.broker c.args.queue.0 c.args.client ≡ Ok tt =
    ap (λ (s : Sessioned). request_admission log_kind s.broker c.args.queue.0 c.args.client) c.self.view_is
    ∙ runs_admitted c.args.self.now c.args.queue.0 c.args.client c.args.number answer in
    run_reply c.self.inside.broker c.run.new.broker c.args.queue.0 c.args.client c.args.call c.self.inside.kept
    c.self.invariant c.run.ensures.promises.well fits c.args.number c.in_ok-reply-2.reply c.hear.new.self here
    c.in_ok-reply-2.ensures.run

pub returns-clause-promises : goal.returns-clause-promises
returns-clause-promises c = numbers_kept _ (invariant_of-self-2 c)

pub returns-in_err-reply-clause-queues : goal.returns-in_err-reply-clause-queues
returns-in_err-reply-clause-queues c = broker_stays _

pub returns-in-Some-clause-queues : goal.returns-in-Some-clause-queues
returns-in-Some-clause-queues c = broker_stays _

pub returns-in_err-reply-2-clause-queues : goal.returns-in_err-reply-2-clause-queues
returns-in_err-reply-2-clause-queues c = queues_on _ _ _ c.self.view_is c.run.ensures.goes_on

pub returns-clause-queues : goal.returns-clause-queues
returns-clause-queues c = queues_on _ _ _ c.self.view_is c.run.ensures.goes_on

pub returns-in_err-reply-clause-stale : goal.returns-in_err-reply-clause-stale
returns-in_err-reply-clause-stale c = λ is.
    let same : c.in_err-reply.field-0.0 ≡ StaleNumber =
    same_refusal _ _ (sym (passed_on c.from_residual.result c.in_err-reply.field-0.0 c.from_residual.ensures) ∙ is) in
    absurd (answer_other c.args.self.now c.args.queue.0 c.args.client c.args.number
    (sym c.in_err-reply.ensures.answer ∙ ap (λ (r : Refusal). Err r) same))

pub returns-in_err-reply-2-clause-stale : goal.returns-in_err-reply-2-clause-stale
returns-in_err-reply-2-clause-stale c = λ is.
    let old : Sessioned = session_view c.self.inside in
    let same : c.in_err-reply-2.field-0.0 ≡ StaleNumber =
    same_refusal _ _ (sym (passed_on c.from_residual-in_err-reply-2.result c.in_err-reply-2.field-0.0 c.from_residual-in_err-reply-2.ensures) ∙ is) in
    let answer : request_answer c.args.self.now c.args.queue.0 c.args.client c.args.number ≡ Ok None =
    sym c.in_ok-reply.ensures.answer ∙ ap (λ (o : Option Reply). let r : Result (Option Reply) Refusal = Ok o in r) c.in_default.is in
    let runs : request_answer old c.args.queue.0 c.args.client c.args.number ≡ Ok None =
    ap (λ (s : Sessioned). request_answer s c.args.queue.0 c.args.client c.args.number) c.self.view_is ∙ answer in
    unserved_above old (numbers_kept old c.self.invariant) c.args.queue.0 c.args.client c.args.number runs c.run.new.broker
    c.args.call
    (subst (IsUnserved c.self.inside.broker c.run.new.broker c.args.queue.0 c.args.client c.args.number c.args.call) same
    c.in_err-reply-2.ensures.run.0)

-- by what the look says: a refusal, the kept reply, or a run
pub returns-in_err-reply-clause-request : goal.returns-in_err-reply-clause-request
returns-in_err-reply-clause-request c =
    subst (IsServedBy c.args.self.now c.args.self.now c.args.queue.0 c.args.client c.args.number c.args.call c.from_residual.result)
    c.in_err-reply.ensures.answer (passed_on c.from_residual.result c.in_err-reply.field-0.0 c.from_residual.ensures, refl)

pub returns-in-Some-clause-request : goal.returns-in-Some-clause-request
returns-in-Some-clause-request c =
    subst (IsServedBy c.args.self.now c.args.self.now c.args.queue.0 c.args.client c.args.number c.args.call (Ok c.in-Some.reply))
    (ap (λ (o : Option Reply). let r : Result (Option Reply) Refusal = Ok o in r) (sym c.in-Some.is) ∙ c.in_ok-reply.ensures.answer) (refl, refl)

pub returns-in_err-reply-2-clause-request : goal.returns-in_err-reply-2-clause-request
returns-in_err-reply-2-clause-request c =
    let new : Sessioned = record { broker = c.run.new.broker; kept = c.self.inside.kept } in
    subst (IsServedBy c.args.self.now new c.args.queue.0 c.args.client c.args.number c.args.call c.from_residual-in_err-reply-2.result)
    (ap (λ (o : Option Reply). let r : Result (Option Reply) Refusal = Ok o in r) (sym c.in_default.is) ∙ c.in_ok-reply.ensures.answer)
    (subst (λ (s : Sessioned). IsRun s.broker c.run.new.broker c.args.queue.0 c.args.client c.args.number c.args.call c.from_residual-in_err-reply-2.result) c.self.view_is
    (subst (IsRun c.self.inside.broker c.run.new.broker c.args.queue.0 c.args.client c.args.number c.args.call)
    (sym (passed_on c.from_residual-in_err-reply-2.result c.in_err-reply-2.field-0.0 c.from_residual-in_err-reply-2.ensures))
    c.in_err-reply-2.ensures.run))

pub returns-clause-request : goal.returns-clause-request
returns-clause-request c =
    let new : Sessioned = record { broker = c.run.new.broker; kept = c.hear.new.self } in
    subst (IsServedBy c.args.self.now new c.args.queue.0 c.args.client c.args.number c.args.call (Ok c.in_ok-reply-2.reply))
    (ap (λ (o : Option Reply). let r : Result (Option Reply) Refusal = Ok o in r) (sym c.in_default.is) ∙ c.in_ok-reply.ensures.answer)
    (subst (λ (s : Sessioned). IsRun s.broker c.run.new.broker c.args.queue.0 c.args.client c.args.number c.args.call (Ok c.in_ok-reply-2.reply)) c.self.view_is
    c.in_ok-reply-2.ensures.run)
