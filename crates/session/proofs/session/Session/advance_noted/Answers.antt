use Rattle.std.proofs.Common.{◌≡◌, ℕ, Option, Some, None, Result, Ok, ap, refl, sym, subst, ◌∙◌}
use Rattle.std.specs.Option.{IfSome}
use Rattle.std.specs.Result.{IfOk}
use Rattle.words.specs.declared.call.Reply.{Reply}
use Rattle.words.specs.declared.refusal.Refusal.{Refusal}
use Rattle.persist.specs.Noted.{IsNoted, answer_in, change_in}
use Rattle.named.specs.Brokers.{IsWell, world_at}
use Rattle.named.specs.Looking.{IsOpenTo}
use Rattle.session.specs.Answering.{IsHeardNow, IsReplyOfCall, number_at}
use Rattle.session.specs.Keeping.{IsKeptNow, SessionGoesOn}
use Rattle.session.specs.Promises.{IsReplyIfNumbered}
use Rattle.session.specs.Requests.{IsAdvanced, call_number, last_after}
use Rattle.session.specs.Sessions.{Sessioned, kept_in}
use Rattle.session.proofs.calls.Sessions.{advanced_on, advanced_reply, advanced_right, gone_on, kept_gone_on, kept_heard, kept_refused}
use Rattle.session.proofs.calls.Sessions.{number_heard}
use Rattle.session.proofs.calls.Refusing.{answered_so, not_advanced}
use Rattle.session.proofs.calls.SlotCalls.{answered_at}
use Rattle.session.proofs.answers.Promises.{numbers_kept, numbers_shown}
use Rattle.named.proofs.Facts.{broker_stays, open_below}
use Rattle.session.proofs.calls.Queues.{queues_on}
use Rattle.session.proofs.session.Session.advance_noted.Goals as goal

pub returns-in_err-number-clause-promises : goal.returns-in_err-number-clause-promises
returns-in_err-number-clause-promises c = numbers_shown _ _ c.self.invariant c.self.view_is

pub invariant_of-self-in_default : goal.invariant_of-self-in_default
invariant_of-self-in_default c =
    advanced_right c.self.inside.broker c.step_open-acted.new.self c.args.queue.0 c.args.client c.self.inside.kept c.self.inside.kept
    (answer_in c.step_open-acted.result) c.self.invariant c.step_open-acted.ensures.promises.well
    (record { act = c.step_open-acted.ensures.act; stays = c.step_open-acted.ensures.stays; beside = c.step_open-acted.ensures.beside })
    (kept_refused c.self.inside.kept c.args.queue.0 c.args.client.0 _ (answer_in c.step_open-acted.result) c.in_default.field-0 (ap (answer_in {T = Option Reply}) c.in_default.is))

pub returns-in_default-clause-goes_on : goal.returns-in_default-clause-goes_on
returns-in_default-clause-goes_on c =
    subst (λ (s : Sessioned). SessionGoesOn s (record { broker = c.step_open-acted.new.self; kept = c.self.inside.kept })) c.self.view_is
    (advanced_on c.self.inside.broker c.step_open-acted.new.self c.args.queue.0 c.args.client c.self.inside.kept c.self.inside.kept
    (answer_in c.step_open-acted.result) c.self.invariant
    (record { act = c.step_open-acted.ensures.act; stays = c.step_open-acted.ensures.stays; beside = c.step_open-acted.ensures.beside })
    (kept_refused c.self.inside.kept c.args.queue.0 c.args.client.0 _ (answer_in c.step_open-acted.result) c.in_default.field-0 (ap (answer_in {T = Option Reply}) c.in_default.is)))

pub returns-in_default-clause-promises : goal.returns-in_default-clause-promises
returns-in_default-clause-promises c = numbers_kept _ (invariant_of-self-in_default c)

pub hear-requires-clause-slot : goal.hear-requires-clause-slot
hear-requires-clause-slot c =
    let at = answered_at _ c.self.inside.broker c.args.queue.0 c.args.client c.in-Ok.noted.answer
    (sym c.step_open-acted.ensures.act.answers ∙ (ap (answer_in {T = Option Reply}) c.in-Ok.is)) in
    open_below c.self.inside.broker c.self.invariant.well c.args.queue.0 at.world at.here

pub invariant_of-self-in-Ok : goal.invariant_of-self-in-Ok
invariant_of-self-in-Ok c =
    let asked = number_heard c.args.self.now.broker c.args.queue.0 c.args.client c.in_ok-number.number c.calling.result
    c.in_ok-number.was c.calling.ensures.answer in
    advanced_right c.self.inside.broker c.step_open-acted.new.self c.args.queue.0 c.args.client c.self.inside.kept c.hear.new.self
    (answer_in c.step_open-acted.result) c.self.invariant c.step_open-acted.ensures.promises.well
    (record { act = c.step_open-acted.ensures.act; stays = c.step_open-acted.ensures.stays; beside = c.step_open-acted.ensures.beside })
    (kept_heard c.self.inside.kept c.hear.new.self c.args.queue.0 c.args.client.0 c.in_ok-number.number _ (answer_in c.step_open-acted.result)
    c.in-Ok.noted.answer
    (subst (λ (s : Sessioned). c.in_ok-number.number ≡ call_number (world_at s.broker c.args.queue.0) c.args.client)
    (sym c.self.view_is) asked)
    (ap (answer_in {T = Option Reply}) c.in-Ok.is) c.hear.ensures)

pub returns-else-is_none-clause-reply : goal.returns-else-is_none-clause-reply
returns-else-is_none-clause-reply c =
    subst (λ r. IfOk r (λ answer. IfSome answer (IsReplyIfNumbered
    (record { broker = c.step_open-acted.new.self; kept = c.hear.new.self }) c.args.queue.0 c.args.client
    (call_number (world_at c.args.self.now.broker c.args.queue.0) c.args.client)))) (sym (ap (answer_in {T = Option Reply}) c.in-Ok.is))
    (subst (λ (s : Sessioned). IfSome c.in-Ok.noted.answer (IsReplyIfNumbered
    (record { broker = c.step_open-acted.new.self; kept = c.hear.new.self }) c.args.queue.0 c.args.client
    (call_number (world_at s.broker c.args.queue.0) c.args.client))) c.self.view_is
    (by_answer c.in-Ok.noted.answer (ap (answer_in {T = Option Reply}) c.in-Ok.is)))
  where
    made : IsAdvanced c.self.inside.broker c.step_open-acted.new.self c.args.queue.0 c.args.client (answer_in c.step_open-acted.result)
    made = record { act = c.step_open-acted.ensures.act; stays = c.step_open-acted.ensures.stays; beside = c.step_open-acted.ensures.beside }

    by_answer : (answer : Option Reply) → (answer_in c.step_open-acted.result) ≡ Ok answer → IfSome answer (IsReplyIfNumbered
        (record { broker = c.step_open-acted.new.self; kept = c.hear.new.self }) c.args.queue.0 c.args.client
        (call_number (world_at c.self.inside.broker c.args.queue.0) c.args.client))
    by_answer None e = tt
    by_answer (Some reply) e =
        advanced_reply c.self.inside.broker c.step_open-acted.new.self c.args.queue.0 c.args.client c.self.inside.kept c.hear.new.self
        reply c.self.invariant
        (subst (IsAdvanced c.self.inside.broker c.step_open-acted.new.self c.args.queue.0 c.args.client) e made)

pub returns-else-is_none-clause-kept : goal.returns-else-is_none-clause-kept
returns-else-is_none-clause-kept c =
    let asked = number_heard c.args.self.now.broker c.args.queue.0 c.args.client c.in_ok-number.number c.calling.result
    c.in_ok-number.was c.calling.ensures.answer in
    subst (λ r. IsKeptNow c.args.self.now.kept c.hear.new.self c.args.queue.0 c.args.client.0
    (last_after (call_number (world_at c.args.self.now.broker c.args.queue.0) c.args.client) r
    (kept_in c.args.self.now.kept c.args.queue.0 c.args.client.0))) (sym (ap (answer_in {T = Option Reply}) c.in-Ok.is))
    (subst (λ (n : Option ℕ). IsKeptNow c.args.self.now.kept c.hear.new.self c.args.queue.0 c.args.client.0
    (last_after n (Ok c.in-Ok.noted.answer) (kept_in c.args.self.now.kept c.args.queue.0 c.args.client.0))) asked
    (subst (λ (s : Sessioned). IsKeptNow s.kept c.hear.new.self c.args.queue.0 c.args.client.0
    (last_after c.in_ok-number.number (Ok c.in-Ok.noted.answer) (kept_in s.kept c.args.queue.0 c.args.client.0)))
    c.self.view_is c.hear.ensures))

pub returns-else-is_none-clause-goes_on : goal.returns-else-is_none-clause-goes_on
returns-else-is_none-clause-goes_on c =
    let asked = number_heard c.args.self.now.broker c.args.queue.0 c.args.client c.in_ok-number.number c.calling.result
    c.in_ok-number.was c.calling.ensures.answer in
    subst (λ (s : Sessioned). SessionGoesOn s (record { broker = c.step_open-acted.new.self; kept = c.hear.new.self })) c.self.view_is
    (advanced_on c.self.inside.broker c.step_open-acted.new.self c.args.queue.0 c.args.client c.self.inside.kept c.hear.new.self
    (answer_in c.step_open-acted.result) c.self.invariant
    (record { act = c.step_open-acted.ensures.act; stays = c.step_open-acted.ensures.stays; beside = c.step_open-acted.ensures.beside })
    (kept_heard c.self.inside.kept c.hear.new.self c.args.queue.0 c.args.client.0 c.in_ok-number.number _ (answer_in c.step_open-acted.result)
    c.in-Ok.noted.answer
    (subst (λ (s : Sessioned). c.in_ok-number.number ≡ call_number (world_at s.broker c.args.queue.0) c.args.client)
    (sym c.self.view_is) asked)
    (ap (answer_in {T = Option Reply}) c.in-Ok.is) c.hear.ensures))

pub returns-else-is_none-clause-promises : goal.returns-else-is_none-clause-promises
returns-else-is_none-clause-promises c = numbers_kept _ (invariant_of-self-in-Ok c)

pub returns-in_err-number-clause-queues : goal.returns-in_err-number-clause-queues
returns-in_err-number-clause-queues c = broker_stays _

pub returns-in_default-clause-queues : goal.returns-in_default-clause-queues
returns-in_default-clause-queues c = queues_on _ _ _ c.self.view_is c.step_open-acted.ensures.goes_on

pub returns-else-is_none-clause-queues : goal.returns-else-is_none-clause-queues
returns-else-is_none-clause-queues c = queues_on _ _ _ c.self.view_is c.step_open-acted.ensures.goes_on

pub returns-else-is_none-clause-advanced : goal.returns-else-is_none-clause-advanced
returns-else-is_none-clause-advanced c =
    subst (λ (s : Sessioned). IsAdvanced s.broker c.step_open-acted.new.self c.args.queue.0 c.args.client (answer_in c.step_open-acted.result)) c.self.view_is
    (record { act = c.step_open-acted.ensures.act; stays = c.step_open-acted.ensures.stays; beside = c.step_open-acted.ensures.beside })

pub returns-in_default-clause-advanced : goal.returns-in_default-clause-advanced
returns-in_default-clause-advanced c =
    subst (λ (s : Sessioned). IsAdvanced s.broker c.step_open-acted.new.self c.args.queue.0 c.args.client (answer_in c.step_open-acted.result)) c.self.view_is
    (record { act = c.step_open-acted.ensures.act; stays = c.step_open-acted.ensures.stays; beside = c.step_open-acted.ensures.beside })

pub returns-else-is_none-clause-noted : goal.returns-else-is_none-clause-noted
returns-else-is_none-clause-noted c = subst (λ (s : Sessioned). IsNoted (change_in c.step_open-acted.result) s.broker.words.kept c.step_open-acted.new.self.words.kept) c.self.view_is c.step_open-acted.ensures.noted

pub returns-in_default-clause-noted : goal.returns-in_default-clause-noted
returns-in_default-clause-noted c = subst (λ (s : Sessioned). IsNoted (change_in c.step_open-acted.result) s.broker.words.kept c.step_open-acted.new.self.words.kept) c.self.view_is c.step_open-acted.ensures.noted

pub step_open-acted-requires : goal.step_open-acted-requires
step_open-acted-requires c = subst (λ (s : Sessioned). IsOpenTo s.broker c.args.queue.0 c.args.client) (sym c.self.view_is) c.in_ok-number.ensures.open

pub invariant_of-self : goal.invariant_of-self
invariant_of-self c =
    let went = gone_on (answer_in c.step_open-acted.result) c.in-Ok.noted.answer (ap (answer_in {T = Option Reply}) c.in-Ok.is) c.if-is_none.ensures in
    advanced_right c.self.inside.broker c.step_open-acted.new.self c.args.queue.0 c.args.client c.self.inside.kept c.self.inside.kept
    (answer_in c.step_open-acted.result) c.self.invariant c.step_open-acted.ensures.promises.well
    (record { act = c.step_open-acted.ensures.act; stays = c.step_open-acted.ensures.stays; beside = c.step_open-acted.ensures.beside })
    (kept_gone_on c.self.inside.kept c.args.queue.0 c.args.client.0 _ (answer_in c.step_open-acted.result) went)

pub returns-then-is_none-clause-goes_on : goal.returns-then-is_none-clause-goes_on
returns-then-is_none-clause-goes_on c =
    let went = gone_on (answer_in c.step_open-acted.result) c.in-Ok.noted.answer (ap (answer_in {T = Option Reply}) c.in-Ok.is) c.if-is_none.ensures in
    subst (λ (s : Sessioned). SessionGoesOn s (record { broker = c.step_open-acted.new.self; kept = c.self.inside.kept })) c.self.view_is
    (advanced_on c.self.inside.broker c.step_open-acted.new.self c.args.queue.0 c.args.client c.self.inside.kept c.self.inside.kept
    (answer_in c.step_open-acted.result) c.self.invariant
    (record { act = c.step_open-acted.ensures.act; stays = c.step_open-acted.ensures.stays; beside = c.step_open-acted.ensures.beside })
    (kept_gone_on c.self.inside.kept c.args.queue.0 c.args.client.0 _ (answer_in c.step_open-acted.result) went))

pub returns-then-is_none-clause-promises : goal.returns-then-is_none-clause-promises
returns-then-is_none-clause-promises c = numbers_kept _ (invariant_of-self c)

pub returns-then-is_none-clause-queues : goal.returns-then-is_none-clause-queues
returns-then-is_none-clause-queues c = queues_on _ _ _ c.self.view_is c.step_open-acted.ensures.goes_on

pub returns-then-is_none-clause-advanced : goal.returns-then-is_none-clause-advanced
returns-then-is_none-clause-advanced c =
    let went = gone_on (answer_in c.step_open-acted.result) c.in-Ok.noted.answer (ap (answer_in {T = Option Reply}) c.in-Ok.is) c.if-is_none.ensures in
    subst (λ (s : Sessioned). IsAdvanced s.broker c.step_open-acted.new.self c.args.queue.0 c.args.client (Ok None)) c.self.view_is
    (subst (IsAdvanced c.self.inside.broker c.step_open-acted.new.self c.args.queue.0 c.args.client) went
    (record { act = c.step_open-acted.ensures.act; stays = c.step_open-acted.ensures.stays; beside = c.step_open-acted.ensures.beside }))

pub returns-then-is_none-clause-kept : goal.returns-then-is_none-clause-kept
returns-then-is_none-clause-kept c =
    subst (λ (s : Sessioned). IsKeptNow s.kept c.self.inside.kept c.args.queue.0 c.args.client.0
    (last_after (call_number (world_at c.args.self.now.broker c.args.queue.0) c.args.client) (Ok None) (kept_in s.kept c.args.queue.0 c.args.client.0)))
    c.self.view_is (kept_gone_on c.self.inside.kept c.args.queue.0 c.args.client.0 _ (Ok None) refl)

pub returns-then-is_none-clause-noted : goal.returns-then-is_none-clause-noted
returns-then-is_none-clause-noted c =
    subst (λ (s : Sessioned). IsNoted c.in-Ok.noted.change s.broker.words.kept c.step_open-acted.new.self.words.kept) c.self.view_is
    (subst (λ change. IsNoted change c.self.inside.broker.words.kept c.step_open-acted.new.self.words.kept)
    (ap (change_in {T = Option Reply}) c.in-Ok.is) c.step_open-acted.ensures.noted)

pub returns-in_err-number-clause-advanced : goal.returns-in_err-number-clause-advanced
returns-in_err-number-clause-advanced c =
    subst (IsAdvanced c.args.self.now.broker c.args.self.now.broker c.args.queue.0 c.args.client)
    (sym (answered_so c.from_residual.result c.in_err-number.field-0.0 c.from_residual.ensures))
    (not_advanced (λ w. call_number (Some w) c.args.client) c.args.self.now.broker c.args.queue.0 c.args.client c.in_err-number.field-0.0
    (subst (λ (s : Sessioned). IsWell s.broker) c.self.view_is c.self.invariant.well) c.in_err-number.ensures.answer)

pub returns-in_default-clause-reply : goal.returns-in_default-clause-reply
returns-in_default-clause-reply c =
    subst (λ (r : Result (Option Reply) Refusal). IsReplyOfCall c.args.self.now (record { broker = c.step_open-acted.new.self; kept = c.self.inside.kept }) c.args.queue.0 c.args.client r)
    (sym (ap (answer_in {T = Option Reply}) c.in_default.is)) tt

pub returns-in_default-clause-kept : goal.returns-in_default-clause-kept
returns-in_default-clause-kept c =
    subst (λ (s : Sessioned). IsHeardNow s.kept c.self.inside.kept c.args.queue.0 c.args.client.0 (number_at c.args.self.now c.args.queue.0 c.args.client)
    (answer_in c.step_open-acted.result)) c.self.view_is
    (kept_refused c.self.inside.kept c.args.queue.0 c.args.client.0 _ (answer_in c.step_open-acted.result) c.in_default.field-0 (ap (answer_in {T = Option Reply}) c.in_default.is))
