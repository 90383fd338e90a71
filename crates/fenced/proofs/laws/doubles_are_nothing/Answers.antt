use Rattle.fenced.proofs.Answered.{doubles}
use Rattle.fenced.proofs.laws.doubles_are_nothing.Goals as goal

pub returns : goal.returns
returns c = λ run is rules. doubles run is rules
