use Rattle.chronicle.specs.Chronicled.{entries}
use Rattle.desk.proofs.Turns.{desked_marked, turn_marked}
use Rattle.desk.proofs.marking.MarkingDesk.mark.Goals as goal

pub invariant_of-self : goal.invariant_of-self
invariant_of-self g c =
    desked_marked g.J.Naming.clients g.J.Naming.first _ c.mark_now.new.self.marked c.mark_now.result c.self.invariant
    c.mark_now.ensures.later c.mark_now.ensures.marked

pub returns-clause-stand : goal.returns-clause-stand
returns-clause-stand g c =
    turn_marked g.J.Naming.clients g.J.Naming.first c.self.inside.counter.marked c.mark_now.result
    (entries c.self.inside.served) c.self.invariant.turn c.mark_now.ensures.later
