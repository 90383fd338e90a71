use Rattle.std.proofs.Common.{sym, subst}
use Rattle.workers.specs.Noting.{IsBooked}
use Rattle.workers.proofs.guard.Notes.{booked_promise}
use Rattle.workers.proofs.locked.Locked.recovery_step.Goals as goal

pub invariant_of-self : goal.invariant_of-self
invariant_of-self g c = (
  c.self.invariant.0,
  c.self.invariant.1,
  c.self.invariant.2,
  subst (IsBooked g.J.Naming.roll.changes g.J.Naming.first.broker.words.kept c.self.inside.session.broker c.self.inside.creating)
      (sym (c.promise.ensures.same c.if-not-promise.true)) c.self.invariant.3,
)

pub invariant_of-self-2 : goal.invariant_of-self-2
invariant_of-self-2 g c =
    let booked = booked_promise g.J.Naming.roll.changes g.J.Naming.first.broker.words.kept c.self.inside.session.broker c.self.inside.creating c.self.inside.book c.promise.new.book 1
    c.self.invariant.3 c.promise.ensures.on (c.promise.ensures.more c.if-not-promise.false) in (
      c.self.invariant.0,
      c.self.invariant.1,
      c.self.invariant.2,
      booked.0,
    )
