use Rattle.findings.proofs.Showing.{shown_pattern}
use Rattle.findings.proofs.laws.witnesses_show_patterns.Goals as goal

pub returns : goal.returns
returns c = shown_pattern
