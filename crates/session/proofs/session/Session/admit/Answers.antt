use Rattle.std.proofs.Common.{◌≡◌, Err, subst, ◌∙◌}
use Rattle.named.specs.Looking.{IsOpenTo, look_at}
use Rattle.session.specs.Requests.{queue_admission, request_admission}
use Rattle.session.specs.Sessions.{Sessioned}
use Rattle.session.proofs.calls.Refusing.{not_done, passed_on, refused_too}
use Rattle.session.proofs.session.Session.admit.Goals as goal

pub returns-in_err-look-clause-answer : goal.returns-in_err-look-clause-answer
returns-in_err-look-clause-answer c =
    passed_on c.from_residual.result c.in_err-look.field-0.0 c.from_residual.ensures
    ∙ subst (λ (s : Sessioned). Err c.in_err-look.field-0.0 ≡ request_admission c.args.kind s.broker c.args.queue.0 c.args.client) c.self.view_is
    (refused_too (look_at c.args.client) (queue_admission c.args.kind c.args.client) c.self.inside.broker c.args.queue.0 c.args.client c.in_err-look.field-0.0 c.in_err-look.ensures.look)

pub returns-in_err-look-clause-open : goal.returns-in_err-look-clause-open
returns-in_err-look-clause-open c = not_done _ c.from_residual.result c.in_err-look.field-0.0 c.from_residual.ensures

pub returns-then-ne-clause-open : goal.returns-then-ne-clause-open
returns-then-ne-clause-open c = tt

pub returns-then-is_some-clause-open : goal.returns-then-is_some-clause-open
returns-then-is_some-clause-open c = tt

pub returns-clause-open : goal.returns-clause-open
returns-clause-open c = subst (λ (s : Sessioned). IsOpenTo s.broker c.args.queue.0 c.args.client) c.self.view_is c.in_ok-look.ensures.open
