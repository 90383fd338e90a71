use Rattle.findings.proofs.Ended.{none_returned}
use Rattle.findings.proofs.known.returned_reply.Goals as goal

pub returns-in_default-clause-none : goal.returns-in_default-clause-none
returns-in_default-clause-none c = none_returned _ _ c.in_default.ensures.none
