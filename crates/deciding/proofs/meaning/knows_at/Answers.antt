use Rattle.std.proofs.Common.{sym, ◌∙◌}
use Rattle.findings.proofs.Offered.{means_none}
use Rattle.deciding.proofs.meaning.knows_at.Goals as goal

pub returns-in-None-clause-found : goal.returns-in-None-clause-found
returns-in-None-clause-found c = means_none (sym c.call_at.ensures ∙ c.in-None.is)
