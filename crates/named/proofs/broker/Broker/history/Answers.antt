use Rattle.std.proofs.Common.{◌≡◌, Option, refl, sym, subst}
use Rattle.std.specs.Prelude.{IsSome}
use Rattle.interleave.specs.State.{State}
use Rattle.named.specs.Slots.{IfWorld}
use Rattle.named.proofs.acts.Refused.{not_done, nothing, why}
use Rattle.named.proofs.promises.Promises.{promises_well}
use Rattle.named.proofs.broker.Broker.history.Goals as goal

pub returns-in_err-queue-clause-base : goal.returns-in_err-queue-clause-base
returns-in_err-queue-clause-base c = nothing _ c.from_residual.result c.in_err-queue.field-0.0 c.from_residual.ensures

pub returns-in_err-queue-clause-told : goal.returns-in_err-queue-clause-told
returns-in_err-queue-clause-told c = nothing _ c.from_residual.result c.in_err-queue.field-0.0 c.from_residual.ensures

pub returns-in_err-queue-clause-events : goal.returns-in_err-queue-clause-events
returns-in_err-queue-clause-events c = nothing _ c.from_residual.result c.in_err-queue.field-0.0 c.from_residual.ensures

pub returns-in_err-queue-clause-open : goal.returns-in_err-queue-clause-open
returns-in_err-queue-clause-open c = not_done _ c.from_residual.result c.in_err-queue.field-0.0 c.from_residual.ensures

pub returns-in_err-queue-clause-errors : goal.returns-in_err-queue-clause-errors
returns-in_err-queue-clause-errors c = why _ c.from_residual.result c.in_err-queue.field-0.0 c.from_residual.ensures c.in_err-queue.ensures.errors

pub returns-in_err-queue-clause-promises : goal.returns-in_err-queue-clause-promises
returns-in_err-queue-clause-promises c = promises_well _ c.in_err-queue.ensures.whole

pub returns-clause-promises : goal.returns-clause-promises
returns-clause-promises c = promises_well _ c.in_ok-queue.ensures.whole

pub returns-clause-errors : goal.returns-clause-errors
returns-clause-errors c = tt

pub returns-clause-open : goal.returns-clause-open
returns-clause-open c = subst IsSome (sym c.in_ok-queue.ensures.world) refl

pub returns-clause-base : goal.returns-clause-base
returns-clause-base c = subst (λ (o : Option State). IfWorld o (λ w. c.history.result.now.base.items ≡ w.base)) (sym c.in_ok-queue.ensures.world) c.history.ensures.base

pub returns-clause-told : goal.returns-clause-told
returns-clause-told c = subst (λ (o : Option State). IfWorld o (λ w. c.history.result.now.told ≡ w.told)) (sym c.in_ok-queue.ensures.world) c.history.ensures.told

pub returns-clause-events : goal.returns-clause-events
returns-clause-events c = subst (λ (o : Option State). IfWorld o (λ w. c.history.result.now.events.items ≡ w.log.events)) (sym c.in_ok-queue.ensures.world) c.history.ensures.events
