use Rattle.opening.proofs.Anew.{renewed_from}
use Rattle.opening.proofs.opening.renewed.Goals as goal

pub returns-clause-renewed : goal.returns-clause-renewed
returns-clause-renewed c =
    renewed_from _ _ _ c.in_ok-start.start c.in_ok-renewed.field-0 c.recovered.result c.in_ok-start.ensures.begun c.in_ok-start.ensures.promises
    c.in_ok-renewed.ensures.renewed c.recovered.ensures.opened
