use Rattle.workers.proofs.guard.Guarded.{with_mark}
use Rattle.workers.proofs.locked.Locked.mark_after.Goals as goal

pub invariant_of-self : goal.invariant_of-self
invariant_of-self g c = (
  c.self.invariant.0,
  with_mark g.J.Naming.clients g.J.Naming.first _ c.mark_further.new.self c.mark_further.ensures.marks c.self.invariant.1,
  c.self.invariant.2,
  c.self.invariant.3,
)
