use Rattle.desk.proofs.Telling.{replied_in_turn}
use Rattle.desk.proofs.laws.replies_stand.Goals as goal

pub returns : goal.returns
returns c = λ clients first now served turn. replied_in_turn clients first turn.start now served turn.turn
