use Rattle.desk.proofs.Turns.{desked_new}
use Rattle.desk.proofs.marking.MarkingDesk.new.Goals as goal

pub invariant_of-result : goal.invariant_of-result
invariant_of-result g c =
    desked_new g.J.Naming.clients g.J.Naming.first c.in_ok-served.served c.new.result.marked c.mark_now-marked.result
    c.mark_now-marked.ensures.moment.goes_on c.in_ok-served.ensures c.new.ensures
