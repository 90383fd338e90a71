use Rattle.findings.proofs.Stands.{recorded_from}
use Rattle.findings.proofs.recorded.is_recorded.Goals as goal

pub returns : goal.returns
returns c = λ yes. recorded_from _ _ (c.in_ok-all_stand_rightly.ensures c.if-not-branch.false) (c.all_interrupted.ensures yes)
