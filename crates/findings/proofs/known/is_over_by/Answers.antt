use Rattle.findings.proofs.Ended.{over_none}
use Rattle.findings.proofs.known.is_over_by.Goals as goal

pub returns-in-None : goal.returns-in-None
returns-in-None c = (λ yes. cc, λ over. absurd (over_none _ _ _ c.in-None.ensures.none over))
