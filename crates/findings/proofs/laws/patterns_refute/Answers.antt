use Rattle.findings.proofs.Showing.{shown_refutes}
use Rattle.findings.proofs.laws.patterns_refute.Goals as goal

pub returns : goal.returns
returns c = shown_refutes
