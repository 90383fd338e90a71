use Rattle.workers.proofs.guard.Guarded.{with_mark}
use Rattle.workers.proofs.locked.Locked.mark_twice.Goals as goal

pub mark-given-requires : goal.mark-given-requires
mark-given-requires g c =
    (with_mark g.J.Naming.clients g.J.Naming.first _ c.mark_further-kept.new.self c.mark_further-kept.ensures.marks
    c.self.invariant.1).later

pub invariant_of-self : goal.invariant_of-self
invariant_of-self g c = (
  c.self.invariant.0,
  with_mark g.J.Naming.clients g.J.Naming.first _ c.mark-given.new.self c.mark-given.ensures.marks
      (with_mark g.J.Naming.clients g.J.Naming.first _ c.mark_further-kept.new.self c.mark_further-kept.ensures.marks
      c.self.invariant.1),
  c.self.invariant.2,
  c.self.invariant.3,
)
