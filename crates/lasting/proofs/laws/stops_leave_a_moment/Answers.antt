use Rattle.lasting.proofs.Moments.{killed_moment, stopped_moment}
use Rattle.lasting.proofs.laws.stops_leave_a_moment.Goals as goal

pub returns-clause-stopped : goal.returns-clause-stopped
returns-clause-stopped c = λ first j has left stop.
    stopped_moment first has.key has.base has.batches has.count j has.session left has.moments has.of stop

pub returns-clause-killed : goal.returns-clause-killed
returns-clause-killed c = λ first j has going bytes n known long.
    killed_moment first has.key has.base has.batches has.count j has.session bytes n has.moments has.of going known long
