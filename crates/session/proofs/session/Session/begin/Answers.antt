use Rattle.std.proofs.Common.{◌≡◌, ◌∙◌, ℕ, Option, None, Some, Result, Ok, Err, refl, sym, ap, subst}
use Rattle.words.specs.declared.call.Reply.{Reply}
use Rattle.words.specs.declared.refusal.Refusal.{Refusal}
use Rattle.words.specs.declared.refusal.Refusal.TheVariants.{StaleNumber}
use Rattle.interleave.specs.Calls.{is_no_memory}
use Rattle.interleave.specs.State.{after_start}
use Rattle.named.proofs.Facts.{broker_stays, start_alike}
use Rattle.session.specs.SessionView.{session_view}
use Rattle.session.specs.Keeping.{SessionGoesOn}
use Rattle.session.specs.Requests.{IsBegunBy, IsStarted, answer_to, as_begun, number_or_zero}
use Rattle.session.specs.Sessions.{IsRight, Sessioned}
use Rattle.session.proofs.answers.Staleness.{answer_to_other, begun_above}
use Rattle.session.proofs.answers.Promises.{numbers_kept, numbers_shown}
use Rattle.session.proofs.calls.Refusing.{passed_on, same_refusal}
use Rattle.session.proofs.calls.Requests.{answered_reply, started_right}
use Rattle.session.proofs.calls.Clients.{goes_on_kept, laid_out_act}
use Rattle.session.proofs.calls.Starts.{begun_if_runs, number_is, started_by}
use Rattle.session.proofs.calls.Queues.{queues_on}
use Rattle.session.proofs.session.Session.begin.Goals as goal

pub returns-in_err-start_open-clause-begun : goal.returns-in_err-start_open-clause-begun
returns-in_err-start_open-clause-begun c =
    let old : Sessioned = session_view c.self.inside in
    let new : Sessioned = record { broker = c.start_open.new.self; kept = c.self.inside.kept } in
    let runs : answer_to c.args.self.now c.args.queue.0 c.args.client c.args.number ≡ Ok None =
    sym c.in_ok-reply.ensures.answer ∙ ap (λ (o : Option Reply). let r : Result (Option Reply) Refusal = Ok o in r) c.in_default.is in
    let number : c.unwrap_or.result ≡ number_or_zero c.args.number = c.unwrap_or.ensures ∙ number_is c.args.number in
    let refused = passed_on c.from_residual-in_err-start_open.result c.in_err-start_open.field-0.0 c.from_residual-in_err-start_open.ensures in
    let result : as_begun c.start_open.result ≡ c.from_residual-in_err-start_open.result =
    ap as_begun c.in_err-start_open.was ∙ sym refused in
    let done : IsBegunBy old new c.args.queue.0 c.args.client c.unwrap_or.result c.args.call (as_begun c.start_open.result)
    (answer_to c.args.self.now c.args.queue.0 c.args.client c.args.number) =
    begun_if_runs old new c.args.queue.0 c.args.client c.unwrap_or.result c.args.call c.start_open.result
    (answer_to c.args.self.now c.args.queue.0 c.args.client c.args.number) runs
    (started_by old.broker new.broker c.args.queue.0 c.args.client c.unwrap_or.result c.args.call c.start_open.result
    c.start_open.ensures.act
    c.start_open.ensures.beside)
    refl in
    let answers : Result (Option Reply) Refusal = answer_to c.args.self.now c.args.queue.0 c.args.client c.args.number in
    subst (λ (s : Sessioned). IsBegunBy s new c.args.queue.0 c.args.client (number_or_zero c.args.number) c.args.call c.from_residual-in_err-start_open.result answers) c.self.view_is
    (subst (λ (n : ℕ). IsBegunBy old new c.args.queue.0 c.args.client n c.args.call c.from_residual-in_err-start_open.result answers) number
    (subst (λ (r : Result (Option Reply) Refusal). IsBegunBy old new c.args.queue.0 c.args.client c.unwrap_or.result c.args.call r answers) result done))

pub returns-in_err-start_open-clause-goes_on : goal.returns-in_err-start_open-clause-goes_on
returns-in_err-start_open-clause-goes_on c =
    let old : Sessioned = session_view c.self.inside in
    let new : Sessioned = record { broker = c.start_open.new.self; kept = c.self.inside.kept } in
    subst (λ (s : Sessioned). SessionGoesOn s new) c.self.view_is
    (goes_on_kept old new refl
    (laid_out_act (λ w. after_start (is_no_memory c.start_open.result) w c.args.client c.unwrap_or.result c.args.call)
    (λ w. (start_alike (is_no_memory c.start_open.result) w c.args.client c.unwrap_or.result c.args.call).0)
    old.broker new.broker c.args.queue.0 c.args.client c.start_open.ensures.act.world c.start_open.ensures.beside.others))

pub returns-clause-goes_on : goal.returns-clause-goes_on
returns-clause-goes_on c =
    let old : Sessioned = session_view c.self.inside in
    let new : Sessioned = record { broker = c.start_open.new.self; kept = c.self.inside.kept } in
    subst (λ (s : Sessioned). SessionGoesOn s new) c.self.view_is
    (goes_on_kept old new refl
    (laid_out_act (λ w. after_start (is_no_memory c.start_open.result) w c.args.client c.unwrap_or.result c.args.call)
    (λ w. (start_alike (is_no_memory c.start_open.result) w c.args.client c.unwrap_or.result c.args.call).0)
    old.broker new.broker c.args.queue.0 c.args.client c.start_open.ensures.act.world c.start_open.ensures.beside.others))

pub returns-in_err-reply-clause-promises : goal.returns-in_err-reply-clause-promises
returns-in_err-reply-clause-promises c = numbers_shown _ _ c.self.invariant c.self.view_is

pub returns-in-Some-clause-promises : goal.returns-in-Some-clause-promises
returns-in-Some-clause-promises c = numbers_shown _ _ c.self.invariant c.self.view_is

pub returns-in-Some-clause-reply : goal.returns-in-Some-clause-reply
returns-in-Some-clause-reply c =
    let answers : answer_to c.args.self.now c.args.queue.0 c.args.client c.args.number ≡ Ok (Some c.in-Some.reply) =
    sym c.in_ok-reply.ensures.answer ∙ ap (λ (o : Option Reply). let r : Result (Option Reply) Refusal = Ok o in r) c.in-Some.is in
    answered_reply c.args.self.now (subst IsRight c.self.view_is c.self.invariant) c.args.queue.0 c.args.client c.args.number
    c.in-Some.reply answers

pub invariant_of-self : goal.invariant_of-self
invariant_of-self c =
    started_right c.self.inside.broker c.start_open.new.self c.args.queue.0 c.args.client c.unwrap_or.result c.args.call
    c.self.inside.kept (as_begun c.start_open.result) c.self.invariant c.start_open.ensures.promises.well
    (started_by c.self.inside.broker c.start_open.new.self c.args.queue.0 c.args.client c.unwrap_or.result c.args.call
    c.start_open.result c.start_open.ensures.act
    c.start_open.ensures.beside)

pub returns-in_err-start_open-clause-promises : goal.returns-in_err-start_open-clause-promises
returns-in_err-start_open-clause-promises c = numbers_kept _ (invariant_of-self c)

pub invariant_of-self-2 : goal.invariant_of-self-2
invariant_of-self-2 c =
    started_right c.self.inside.broker c.start_open.new.self c.args.queue.0 c.args.client c.unwrap_or.result c.args.call
    c.self.inside.kept (as_begun c.start_open.result) c.self.invariant c.start_open.ensures.promises.well
    (started_by c.self.inside.broker c.start_open.new.self c.args.queue.0 c.args.client c.unwrap_or.result c.args.call
    c.start_open.result c.start_open.ensures.act
    c.start_open.ensures.beside)

pub returns-clause-promises : goal.returns-clause-promises
returns-clause-promises c = numbers_kept _ (invariant_of-self-2 c)

pub returns-in_err-reply-clause-queues : goal.returns-in_err-reply-clause-queues
returns-in_err-reply-clause-queues c = broker_stays _

pub returns-in-Some-clause-queues : goal.returns-in-Some-clause-queues
returns-in-Some-clause-queues c = broker_stays _

pub returns-in_err-start_open-clause-queues : goal.returns-in_err-start_open-clause-queues
returns-in_err-start_open-clause-queues c = queues_on _ _ _ c.self.view_is c.start_open.ensures.goes_on

pub returns-clause-queues : goal.returns-clause-queues
returns-clause-queues c = queues_on _ _ _ c.self.view_is c.start_open.ensures.goes_on

pub returns-in_err-reply-clause-stale : goal.returns-in_err-reply-clause-stale
returns-in_err-reply-clause-stale c = λ is.
    let same : c.in_err-reply.field-0.0 ≡ StaleNumber =
    same_refusal _ _ (sym (passed_on c.from_residual.result c.in_err-reply.field-0.0 c.from_residual.ensures) ∙ is) in
    absurd (answer_to_other c.args.self.now c.args.queue.0 c.args.client c.args.number
    (sym c.in_err-reply.ensures.answer ∙ ap (λ (r : Refusal). Err r) same))

pub returns-in_err-start_open-clause-stale : goal.returns-in_err-start_open-clause-stale
returns-in_err-start_open-clause-stale c = λ is.
    let old : Sessioned = session_view c.self.inside in
    let answer : answer_to c.args.self.now c.args.queue.0 c.args.client c.args.number ≡ Ok None =
    sym c.in_ok-reply.ensures.answer ∙ ap (λ (o : Option Reply). let r : Result (Option Reply) Refusal = Ok o in r) c.in_default.is in
    let runs : answer_to old c.args.queue.0 c.args.client c.args.number ≡ Ok None =
    ap (λ (s : Sessioned). answer_to s c.args.queue.0 c.args.client c.args.number) c.self.view_is ∙ answer in
    let number : c.unwrap_or.result ≡ number_or_zero c.args.number = c.unwrap_or.ensures ∙ number_is c.args.number in
    let refused = passed_on c.from_residual-in_err-start_open.result c.in_err-start_open.field-0.0 c.from_residual-in_err-start_open.ensures in
    let result : as_begun c.start_open.result ≡ c.from_residual-in_err-start_open.result =
    ap as_begun c.in_err-start_open.was ∙ sym refused in
    begun_above old (numbers_kept old c.self.invariant) c.args.queue.0 c.args.client c.args.number runs c.start_open.new.self
    c.args.call (as_begun c.start_open.result)
    (subst (λ (n : ℕ). IsStarted c.self.inside.broker c.start_open.new.self c.args.queue.0 c.args.client n c.args.call
    (as_begun c.start_open.result)) number
    (started_by c.self.inside.broker c.start_open.new.self c.args.queue.0 c.args.client c.unwrap_or.result c.args.call
    c.start_open.result c.start_open.ensures.act
    c.start_open.ensures.beside))
    (result ∙ is)

pub returns-clause-begun : goal.returns-clause-begun
returns-clause-begun c =
    let old : Sessioned = session_view c.self.inside in
    let new : Sessioned = record { broker = c.start_open.new.self; kept = c.self.inside.kept } in
    let runs : answer_to c.args.self.now c.args.queue.0 c.args.client c.args.number ≡ Ok None =
    sym c.in_ok-reply.ensures.answer ∙ ap (λ (o : Option Reply). let r : Result (Option Reply) Refusal = Ok o in r) c.in_default.is in
    let number : c.unwrap_or.result ≡ number_or_zero c.args.number = c.unwrap_or.ensures ∙ number_is c.args.number in
    let result : as_begun c.start_open.result ≡ Ok None = ap as_begun c.in_ok-start_open.was in
    let done : IsBegunBy old new c.args.queue.0 c.args.client c.unwrap_or.result c.args.call (as_begun c.start_open.result)
    (answer_to c.args.self.now c.args.queue.0 c.args.client c.args.number) =
    begun_if_runs old new c.args.queue.0 c.args.client c.unwrap_or.result c.args.call c.start_open.result
    (answer_to c.args.self.now c.args.queue.0 c.args.client c.args.number) runs
    (started_by old.broker new.broker c.args.queue.0 c.args.client c.unwrap_or.result c.args.call c.start_open.result
    c.start_open.ensures.act
    c.start_open.ensures.beside)
    refl in
    let answers : Result (Option Reply) Refusal = answer_to c.args.self.now c.args.queue.0 c.args.client c.args.number in
    subst (λ (s : Sessioned). IsBegunBy s new c.args.queue.0 c.args.client (number_or_zero c.args.number) c.args.call (Ok None) answers) c.self.view_is
    (subst (λ (n : ℕ). IsBegunBy old new c.args.queue.0 c.args.client n c.args.call (Ok None) answers) number
    (subst (λ (r : Result (Option Reply) Refusal). IsBegunBy old new c.args.queue.0 c.args.client c.unwrap_or.result c.args.call r answers) result done))

pub returns-in_err-reply-clause-begun : goal.returns-in_err-reply-clause-begun
returns-in_err-reply-clause-begun c =
    subst (IsBegunBy c.args.self.now c.args.self.now c.args.queue.0 c.args.client (number_or_zero c.args.number) c.args.call c.from_residual.result)
    c.in_err-reply.ensures.answer (passed_on c.from_residual.result c.in_err-reply.field-0.0 c.from_residual.ensures, refl)

pub returns-in-Some-clause-begun : goal.returns-in-Some-clause-begun
returns-in-Some-clause-begun c =
    subst (IsBegunBy c.args.self.now c.args.self.now c.args.queue.0 c.args.client (number_or_zero c.args.number) c.args.call (Ok (Some c.in-Some.reply)))
    (ap (λ (o : Option Reply). let r : Result (Option Reply) Refusal = Ok o in r) (sym c.in-Some.is) ∙ c.in_ok-reply.ensures.answer) (refl, refl)
