use Rattle.std.proofs.Common.{◌≡◌, false, is_some, Option, Some, None, Result, Ok, Err, refl, ap, sym, subst}
use Rattle.words.specs.declared.call.Kind.{Kind}
use Rattle.words.specs.declared.refusal.Refusal.{Refusal}
use Rattle.words.specs.declared.refusal.Refusal.TheVariants.{NoQueue}
use Rattle.interleave.specs.State.{State}
use Rattle.named.specs.BrokerView.{broker_view}
use Rattle.named.specs.Brokers.{Brokered}
use Rattle.named.specs.Renewing.{IsWhyNotRenewedAt}
use Rattle.named.specs.Rotating.{rotate_result}
use Rattle.named.specs.Slots.{answered}
use Rattle.named.specs.declared.recovery.BrokerRecovery.{BrokerRecovery}
use Rattle.named.proofs.acts.OneSlot.{ready_there}
use Rattle.named.proofs.acts.Refused.{down_there, not_done, why}
use Rattle.named.proofs.beginnings.RenewedQueues.{may_renew, rests_as}
use Rattle.named.proofs.broker.Broker.check_renewal.Goals as goal

-- whose kind is not told has no queue
unasked : (o : Option State) (e : Refusal) → (let x : Result Kind Refusal = Err e in x) ≡ answered (λ w. Ok w.shape.kind) o → (e ≡ NoQueue) × (o ≡ None)
unasked (Some w) e is = absurd (cc (is))
unasked None e is = (cc (is), refl)

pub returns-in_err-check_ready-clause-may : goal.returns-in_err-check_ready-clause-may
returns-in_err-check_ready-clause-may c = not_done _ c.from_residual.result c.in_err-check_ready.field-0.0 c.from_residual.ensures

pub returns-in_err-check_ready-clause-errors : goal.returns-in_err-check_ready-clause-errors
returns-in_err-check_ready-clause-errors c =
    let down = down_there c.args.self.now.recovery c.in_err-check_ready.field-0.0 c.in_err-check_ready.ensures in
    why _ c.from_residual.result c.in_err-check_ready.field-0.0 c.from_residual.ensures (subst (IsWhyNotRenewedAt c.args.self.now c.args.slot.0) (sym down.0) down.1)

pub returns-in_err-kind-clause-may : goal.returns-in_err-kind-clause-may
returns-in_err-kind-clause-may c = not_done _ c.from_residual-in_err-kind.result c.in_err-kind.field-0.0 c.from_residual-in_err-kind.ensures

pub returns-in_err-kind-clause-errors : goal.returns-in_err-kind-clause-errors
returns-in_err-kind-clause-errors c =
    let none = unasked _ c.in_err-kind.field-0.0 c.in_err-kind.ensures.kind in
    let up = ap (λ (o : Option BrokerRecovery). is_some o) (ready_there c.args.self.now.recovery c.check_ready.result c.check_ready.ensures c.in_ok-check_ready.was) in
    why _ c.from_residual-in_err-kind.result c.in_err-kind.field-0.0 c.from_residual-in_err-kind.ensures
    (subst (IsWhyNotRenewedAt c.args.self.now c.args.slot.0) (sym none.0) (up, none.1))

pub returns-clause-may : goal.returns-clause-may
returns-clause-may c =
    let b : Brokered = broker_view c.self.inside in
    let rests : rotate_result false b ≡ Ok tt =
    rests_as b c.args.self.now c.self.view_is c.check_ready.result c.check_ready.ensures c.in_ok-check_ready.was c.is_some.result c.is_some.ensures
    c.if-is_some.false c.deref.result.now c.deref.ensures.value c.have_calls.result c.have_calls.ensures c.if-have_calls.false in
    may_renew b c.args.self.now c.self.view_is rests c.args.slot.0 c.kind.result c.in_ok-kind.field-0 c.kind.ensures.kind c.in_ok-kind.was

pub returns-clause-errors : goal.returns-clause-errors
returns-clause-errors c = tt
