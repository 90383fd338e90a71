use Rattle.history.proofs.ServedInTurn.{served_in_turn}
use Rattle.history.proofs.laws.calls_in_turn_are_served.Goals as goal

pub returns : goal.returns
returns c = λ client turns base order explains. served_in_turn client turns base explains.0 order explains.1
