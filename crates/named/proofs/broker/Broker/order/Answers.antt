use Rattle.std.proofs.Common.{◌≡◌, Option, refl, sym, subst}
use Rattle.std.specs.Prelude.{IfErr, IfOk, IsSome}
use Rattle.interleave.specs.State.{State, order_in}
use Rattle.named.specs.Slots.{IfWorld, IsWhyUnread}
use Rattle.named.proofs.acts.Refused.{done, not_done, nothing, why}
use Rattle.named.proofs.broker.Broker.order.Goals as goal

pub returns-in_err-queue-clause-order : goal.returns-in_err-queue-clause-order
returns-in_err-queue-clause-order c = nothing _ c.from_residual.result c.in_err-queue.field-0.0 c.from_residual.ensures

pub returns-in_err-queue-clause-open : goal.returns-in_err-queue-clause-open
returns-in_err-queue-clause-open c = not_done _ c.from_residual.result c.in_err-queue.field-0.0 c.from_residual.ensures

pub returns-in_err-queue-clause-errors : goal.returns-in_err-queue-clause-errors
returns-in_err-queue-clause-errors c =
    why _ c.from_residual.result c.in_err-queue.field-0.0 c.from_residual.ensures
    (subst (λ (o : Option State). IsWhyUnread o c.in_err-queue.field-0.0) (sym c.in_err-queue.ensures.errors.1) c.in_err-queue.ensures.errors.0)

pub returns-clause-order : goal.returns-clause-order
returns-clause-order c = subst (λ (o : Option State). IfOk c.order.result (λ order. IfWorld o (λ w. order.entries.items ≡ order_in w))) (sym c.in_ok-queue.ensures.world) c.order.ensures.order

pub returns-clause-open : goal.returns-clause-open
returns-clause-open c = done _ c.order.result (subst IsSome (sym c.in_ok-queue.ensures.world) refl)

pub returns-clause-errors : goal.returns-clause-errors
returns-clause-errors c = subst (λ (o : Option State). IfErr c.order.result (IsWhyUnread o)) (sym c.in_ok-queue.ensures.world) c.order.ensures.errors
