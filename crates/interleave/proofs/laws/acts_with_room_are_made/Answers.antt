use Rattle.interleave.proofs.runs.Runs.{all_made, all_steps}
use Rattle.interleave.proofs.laws.acts_with_room_are_made.Goals as goal

pub returns-clause-leaves : goal.returns-clause-leaves
returns-clause-leaves c = λ run fits. (all_made run.went fits).0

pub returns-clause-counts : goal.returns-clause-counts
returns-clause-counts c = λ run fits. (all_made run.went fits).1

pub returns-clause-steps : goal.returns-clause-steps
returns-clause-steps c = λ run fits. all_steps run.went fits
