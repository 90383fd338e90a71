use Rattle.interleave.proofs.runs.Attempts.{grown_by_attempt, grown_by_acts}
use Rattle.interleave.proofs.laws.histories_go_on.Goals as goal

pub returns-clause-acts : goal.returns-clause-acts
returns-clause-acts c = grown_by_attempt

pub returns-clause-lists : goal.returns-clause-lists
returns-clause-lists c = λ run. grown_by_acts run.went
