use Rattle.std.proofs.Common.{sym, subst}
use Rattle.std.specs.Prelude.{IfOk, IfSome}
use Rattle.persist.specs.Image.{has_first_form}
use Rattle.opening.specs.Opening.{IsOpenedBy}
use Rattle.opening.proofs.Beginnings.{begun_on, opened_from}
use Rattle.opening.proofs.opening.opened.Goals as goal

pub recovered-requires-clause-begun : goal.recovered-requires-clause-begun
recovered-requires-clause-begun c = begun_on _ _ c.in_ok-begun.field-0 c.in_ok-begun.ensures.begun

pub returns-clause-opened : goal.returns-clause-opened
returns-clause-opened c =
    subst (λ o. IfSome o (λ bytes. IfOk c.recovered.result (IsOpenedBy (has_first_form bytes.now) bytes.now))) (sym c.in-Some.is)
    (opened_from _ _ c.in_ok-begun.field-0 c.recovered.result c.in_ok-begun.ensures.begun c.recovered.ensures.opened)
