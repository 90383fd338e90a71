use Rattle.lasting.proofs.Moments.{killed_later, lost_later, stopped_later, there_later}
use Rattle.lasting.proofs.laws.stops_leave_what_was_assured.Goals as goal

pub returns-clause-stopped : goal.returns-clause-stopped
returns-clause-stopped c = λ first s j a left stop. stopped_later first s j left a stop

pub returns-clause-killed : goal.returns-clause-killed
returns-clause-killed c = λ first s policy j a left stop. killed_later first s policy j left a stop

pub returns-clause-lost : goal.returns-clause-lost
returns-clause-lost c = λ first s j a going bytes n known long. lost_later first s j bytes n a going known long

pub returns-clause-there : goal.returns-clause-there
returns-clause-there c = λ first s policy j a going bytes known. there_later first s policy j bytes a going known
