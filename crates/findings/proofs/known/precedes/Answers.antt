use Rattle.findings.proofs.Ended.{precedes_none}
use Rattle.findings.proofs.known.precedes.Goals as goal

pub returns-in-None : goal.returns-in-None
returns-in-None c = (λ yes. cc, λ before. absurd (precedes_none _ _ _ c.in-None.ensures.none before))
