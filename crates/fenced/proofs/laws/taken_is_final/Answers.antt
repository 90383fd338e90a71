use Rattle.fenced.proofs.Answered.{is_taken}
use Rattle.fenced.proofs.laws.taken_is_final.Goals as goal

pub returns : goal.returns
returns c = λ run is rules. is_taken run is rules
