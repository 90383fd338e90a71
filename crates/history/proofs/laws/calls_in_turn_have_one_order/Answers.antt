use Rattle.history.proofs.ServedInTurn.{one_order, left_is}
use Rattle.history.proofs.laws.calls_in_turn_have_one_order.Goals as goal

pub returns-clause-order : goal.returns-clause-order
returns-clause-order c = λ client turns base order explains. one_order client turns base explains.0 order explains.1

pub returns-clause-left : goal.returns-clause-left
returns-clause-left c = λ client turns base order explains. left_is client turns base explains.0 order explains.1
