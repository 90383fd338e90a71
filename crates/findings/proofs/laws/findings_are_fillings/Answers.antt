use Rattle.findings.proofs.Filled.{filling_from_findings, findings_from_filling}
use Rattle.findings.proofs.laws.findings_are_fillings.Goals as goal

pub returns : goal.returns
returns c = λ events learnt order recorded. (
  filling_from_findings events learnt order recorded,
  findings_from_filling events learnt order recorded,
)
