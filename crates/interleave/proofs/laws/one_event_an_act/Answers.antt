use Rattle.interleave.proofs.machine.Acts.{act_adds_one}
use Rattle.interleave.proofs.laws.one_event_an_act.Goals as goal

pub returns : goal.returns
returns c = λ w act. act_adds_one w act
