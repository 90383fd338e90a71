use Rattle.desk.proofs.Turns.{desked_answered}
use Rattle.desk.proofs.marking.MarkingDesk.answer.Goals as goal

pub invariant_of-self : goal.invariant_of-self
invariant_of-self g c =
    desked_answered g.J.Naming.clients g.J.Naming.first _ c.note.new.self c.answer.new.self.marked c.args.request
    c.copied.result c.answer.result c.self.invariant c.note.ensures.entries c.note.ensures.settled c.copied.ensures
    c.answer.ensures
