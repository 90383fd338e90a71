use Rattle.fenced.proofs.Answered.{confirmed}
use Rattle.fenced.proofs.laws.confirmed_is_current.Goals as goal

pub returns : goal.returns
returns c = λ run is rules. confirmed run is rules
