use Rattle.std.proofs.Common.{Option, refl, sym, subst}
use Rattle.std.specs.Prelude.{IfErr, IsSome}
use Rattle.interleave.specs.State.{State}
use Rattle.named.specs.Slots.{IsWhyUnread}
use Rattle.named.proofs.acts.Refused.{done, not_done, nothing, why}
use Rattle.named.proofs.broker.Broker.content.Goals as goal

pub returns-in_err-queue-clause-content : goal.returns-in_err-queue-clause-content
returns-in_err-queue-clause-content c = nothing _ c.from_residual.result c.in_err-queue.field-0.0 c.from_residual.ensures

pub returns-in_err-queue-clause-open : goal.returns-in_err-queue-clause-open
returns-in_err-queue-clause-open c = not_done _ c.from_residual.result c.in_err-queue.field-0.0 c.from_residual.ensures

pub returns-in_err-queue-clause-errors : goal.returns-in_err-queue-clause-errors
returns-in_err-queue-clause-errors c =
    why _ c.from_residual.result c.in_err-queue.field-0.0 c.from_residual.ensures
    (subst (λ (o : Option State). IsWhyUnread o c.in_err-queue.field-0.0) (sym c.in_err-queue.ensures.errors.1) c.in_err-queue.ensures.errors.0)

pub returns-clause-open : goal.returns-clause-open
returns-clause-open c = done _ c.content.result (subst IsSome (sym c.in_ok-queue.ensures.world) refl)

pub returns-clause-errors : goal.returns-clause-errors
returns-clause-errors c = subst (λ (o : Option State). IfErr c.content.result (IsWhyUnread o)) (sym c.in_ok-queue.ensures.world) c.content.ensures.errors
