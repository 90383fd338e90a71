use Rattle.std.proofs.Common.{subst}
use Rattle.named.specs.Brokers.{Brokered}
use Rattle.named.specs.Renewing.{IsRenewedAt, IsWhyNotRenewedAt, MayRenew}
use Rattle.named.proofs.acts.Refused.{left, not_done, why}
use Rattle.named.proofs.broker.Broker.renew.Goals as goal

pub returns-in_err-anew-clause-errors : goal.returns-in_err-anew-clause-errors
returns-in_err-anew-clause-errors c =
    let e = c.in_err-anew.field-0.0 in
    let reason : IsWhyNotRenewedAt c.args.self.now c.args.slot.0 e =
    subst (λ (b : Brokered). IsWhyNotRenewedAt b c.args.slot.0 e) c.take_spare-list.ensures c.in_err-anew.ensures.errors in
    why _ c.from_residual.result e c.from_residual.ensures reason

pub returns-in_err-anew-clause-may : goal.returns-in_err-anew-clause-may
returns-in_err-anew-clause-may c = not_done _ c.from_residual.result c.in_err-anew.field-0.0 c.from_residual.ensures

pub returns-in_err-anew-clause-renewed : goal.returns-in_err-anew-clause-renewed
returns-in_err-anew-clause-renewed c = not_done _ c.from_residual.result c.in_err-anew.field-0.0 c.from_residual.ensures

pub returns-in_err-anew-clause-room : goal.returns-in_err-anew-clause-room
returns-in_err-anew-clause-room c = not_done _ c.from_residual.result c.in_err-anew.field-0.0 c.from_residual.ensures

pub returns-in_err-anew-clause-same : goal.returns-in_err-anew-clause-same
returns-in_err-anew-clause-same c = left _ c.from_residual.result c.take_spare-list.ensures

pub returns-in_err-anew-clause-promises : goal.returns-in_err-anew-clause-promises
returns-in_err-anew-clause-promises c = c.in_err-anew.ensures.stays

pub begin_anew-requires-clause-may : goal.begin_anew-requires-clause-may
begin_anew-requires-clause-may c = c.in_ok-anew.ensures.may

pub begin_anew-requires-clause-anew : goal.begin_anew-requires-clause-anew
begin_anew-requires-clause-anew c = c.in_ok-anew.ensures.anew

pub returns-clause-may : goal.returns-clause-may
returns-clause-may c = subst (λ (b : Brokered). MayRenew b c.args.slot.0) c.take_spare-list.ensures c.in_ok-anew.ensures.may

pub returns-clause-renewed : goal.returns-clause-renewed
returns-clause-renewed c = subst (λ (b : Brokered). IsRenewedAt b c.begin_anew.new.self c.args.slot.0) c.take_spare-list.ensures c.begin_anew.ensures.renewed

pub returns-clause-room : goal.returns-clause-room
returns-clause-room c = c.begin_anew.ensures.room

pub returns-clause-errors : goal.returns-clause-errors
returns-clause-errors c = tt

pub returns-clause-same : goal.returns-clause-same
returns-clause-same c = tt

pub returns-clause-promises : goal.returns-clause-promises
returns-clause-promises c = c.begin_anew.ensures.promises
