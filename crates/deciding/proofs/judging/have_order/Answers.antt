use Rattle.std.proofs.Common.{subst}
use Rattle.windows.specs.Calls.{Calls, Pattern}
use Rattle.deciding.proofs.judging.have_order.Goals as goal

pub returns-clause-pattern : goal.returns-clause-pattern
returns-clause-pattern c = λ fails.
    subst (λ (calls : Calls). Pattern calls) c.in_ok-tables.ensures.1 (c.is_explained.ensures.pattern fails)
