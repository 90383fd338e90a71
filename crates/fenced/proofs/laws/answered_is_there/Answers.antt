use Rattle.fenced.proofs.Answered.{appended, goes_on, one_text}
use Rattle.fenced.proofs.Reading.{is_placed}
use Rattle.fenced.proofs.laws.answered_is_there.Goals as goal

pub returns-clause-appended : goal.returns-clause-appended
returns-clause-appended c = λ run is rules. appended run is rules

pub returns-clause-one : goal.returns-clause-one
returns-clause-one c = λ run is rules. one_text run is rules

pub returns-clause-goes_on : goal.returns-clause-goes_on
returns-clause-goes_on c = λ run is rules i j tail later some has is_later. goes_on run is rules j i tail some has later is_later

pub returns-clause-placed : goal.returns-clause-placed
returns-clause-placed c = λ run is rules. is_placed run is rules
