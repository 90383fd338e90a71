use Rattle.std.proofs.Common.{◌≡◌, ℕ, Option, Some, None, Ok, Err, Result, subst, ap, sym, ◌∙◌}
use Rattle.words.specs.declared.call.Kind.{Kind}
use Rattle.words.specs.declared.call.Kind.TheVariants.{Durable as durable_kind, Log as log_kind}
use Rattle.words.specs.declared.refusal.Refusal.{Refusal}
use Rattle.interleave.specs.State.{State}
use Rattle.interleave.specs.Verdicts.{number_under_way}
use Rattle.words.specs.declared.call.Client.{Client}
use Rattle.named.specs.Looking.{IsOpenTo, look_at}
use Rattle.named.specs.declared.looks.Look.{Look}
use Rattle.named.specs.Brokers.{answer_at}
use Rattle.session.specs.Sessions.{Sessioned}
use Rattle.session.specs.Requests.{call_number, numbered}
use Rattle.session.proofs.calls.Refusing.{answered_by, looked, not_done, passed_on, refused_too}
use Rattle.session.proofs.session.Session.calling.Goals as goal

abbrev called : Client → State → Result (Option ℕ) Refusal
called client w = Ok (call_number (Some w) client)

pub returns-in_err-look-clause-answer : goal.returns-in_err-look-clause-answer
returns-in_err-look-clause-answer c =
    passed_on c.from_residual.result c.in_err-look.field-0.0 c.from_residual.ensures
    ∙ subst (λ (s : Sessioned). (let r : Result (Option ℕ) Refusal = Err c.in_err-look.field-0.0 in r) ≡ answer_at (called c.args.client) s.broker c.args.queue.0 c.args.client) c.self.view_is
    (refused_too (look_at c.args.client) (called c.args.client) c.self.inside.broker c.args.queue.0 c.args.client c.in_err-look.field-0.0 c.in_err-look.ensures.look)

pub returns-in_err-look-clause-open : goal.returns-in_err-look-clause-open
returns-in_err-look-clause-open c = not_done _ c.from_residual.result c.in_err-look.field-0.0 c.from_residual.ensures

pub returns-in-Log-clause-open : goal.returns-in-Log-clause-open
returns-in-Log-clause-open c = subst (λ (s : Sessioned). IsOpenTo s.broker c.args.queue.0 c.args.client) c.self.view_is c.in_ok-look.ensures.open

pub returns-in-Log-clause-answer : goal.returns-in-Log-clause-answer
returns-in-Log-clause-answer c =
    let w : State = c.in_ok-look.ensures.open.world in
    let is : c.in_ok-look.look ≡ look_at c.args.client w =
    looked c.in_ok-look.look c.self.inside.broker c.args.queue.0 c.args.client w c.in_ok-look.ensures.open.here c.in_ok-look.ensures.open.admitted c.in_ok-look.ensures.look in
    let kind : w.shape.kind ≡ log_kind = sym (ap (λ (l : Look). l.kind) is) ∙ c.in-Log.is in
    let answer : called c.args.client w ≡ Ok c.in_ok-look.look.calling =
    ap (λ (k : Kind). let r : Result (Option ℕ) Refusal = Ok (numbered k (number_under_way w c.args.client)) in r) kind ∙ ap (λ (l : Look). let r : Result (Option ℕ) Refusal = Ok l.calling in r) (sym is) in
    subst (λ (s : Sessioned). Ok c.in_ok-look.look.calling ≡ answer_at (called c.args.client) s.broker c.args.queue.0 c.args.client) c.self.view_is
    (sym (answered_by (called c.args.client) c.self.inside.broker c.args.queue.0 c.args.client w c.in_ok-look.ensures.open.here c.in_ok-look.ensures.open.admitted ∙ answer))

pub returns-in-Durable-clause-open : goal.returns-in-Durable-clause-open
returns-in-Durable-clause-open c = subst (λ (s : Sessioned). IsOpenTo s.broker c.args.queue.0 c.args.client) c.self.view_is c.in_ok-look.ensures.open

pub returns-in-Durable-clause-answer : goal.returns-in-Durable-clause-answer
returns-in-Durable-clause-answer c =
    let w : State = c.in_ok-look.ensures.open.world in
    let is : c.in_ok-look.look ≡ look_at c.args.client w =
    looked c.in_ok-look.look c.self.inside.broker c.args.queue.0 c.args.client w c.in_ok-look.ensures.open.here c.in_ok-look.ensures.open.admitted c.in_ok-look.ensures.look in
    let kind : w.shape.kind ≡ durable_kind = sym (ap (λ (l : Look). l.kind) is) ∙ c.in-Durable.is in
    let answer : called c.args.client w ≡ Ok None =
    ap (λ (k : Kind). let r : Result (Option ℕ) Refusal = Ok (numbered k (number_under_way w c.args.client)) in r) kind in
    subst (λ (s : Sessioned). Ok None ≡ answer_at (called c.args.client) s.broker c.args.queue.0 c.args.client) c.self.view_is
    (sym (answered_by (called c.args.client) c.self.inside.broker c.args.queue.0 c.args.client w c.in_ok-look.ensures.open.here c.in_ok-look.ensures.open.admitted ∙ answer))
