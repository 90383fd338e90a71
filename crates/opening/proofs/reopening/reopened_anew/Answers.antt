use Rattle.std.proofs.Common.{rules, ◌≡◌, Err, IfErr, sym, subst}
use Rattle.opening.specs.Opening.{IsWhyNotReopenedAnew}
use Rattle.opening.proofs.Anew.{reopened_on, unrenewed_on}
use Rattle.opening.proofs.reopening.reopened_anew.Goals as goal

pub returns-in_err-renewed-clause-errors : goal.returns-in_err-renewed-clause-errors
returns-in_err-renewed-clause-errors c =
    let answer : c.from_residual-in_err-renewed.result ≡ Err c.in_err-renewed.field-0.0 = search rules in
    subst (λ r. IfErr r (IsWhyNotReopenedAnew c.args.words.items (record { clients = c.args.clients; records = c.args.records }))) (sym answer)
    (unrenewed_on _ _ c.in_ok-start.start c.in_ok-start.ensures.begun _ c.in_err-renewed.ensures.errors)

pub returns-clause-renewed : goal.returns-clause-renewed
returns-clause-renewed c =
    reopened_on _ _ c.in_ok-start.start c.in_ok-start.ensures.begun c.in_ok-renewed.field-0 c.recovered.result
    c.in_ok-renewed.ensures.renewed c.recovered.ensures.opened
