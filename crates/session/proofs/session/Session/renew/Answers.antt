use Rattle.std.proofs.Common.{subst}
use Rattle.std.specs.Prelude.{IfErr}
use Rattle.named.specs.Renewing.{IsWhyNotRenewedAt}
use Rattle.session.specs.Keeping.{SessionGoesOn}
use Rattle.session.specs.Sessions.{Sessioned}
use Rattle.session.proofs.answers.Promises.{numbers_kept}
use Rattle.session.proofs.brokers.Renewals.{renewal_goes_on, right_renewed}
use Rattle.session.proofs.session.Session.renew.Goals as goal

pub invariant_of-self : goal.invariant_of-self
invariant_of-self c =
    right_renewed c.self.inside.broker c.renew.new.self c.self.inside.kept c.self.invariant c.args.queue.0 c.renew.result
    c.renew.ensures.promises.well c.renew.ensures.may c.renew.ensures.renewed c.renew.ensures.same

pub returns-clause-promises : goal.returns-clause-promises
returns-clause-promises c = numbers_kept _ (invariant_of-self c)

pub returns-clause-errors : goal.returns-clause-errors
returns-clause-errors c =
    subst (λ (x : Sessioned). IfErr c.renew.result (IsWhyNotRenewedAt x.broker c.args.queue.0)) c.self.view_is c.renew.ensures.errors

pub returns-clause-goes_on : goal.returns-clause-goes_on
returns-clause-goes_on c =
    let new : Sessioned = record { broker = c.renew.new.self; kept = c.self.inside.kept } in
    subst (λ (x : Sessioned). SessionGoesOn x new) c.self.view_is
    (renewal_goes_on c.self.inside.broker c.renew.new.self c.self.inside.kept c.self.invariant c.args.queue.0 c.renew.result c.renew.ensures.renewed
    c.renew.ensures.same)
