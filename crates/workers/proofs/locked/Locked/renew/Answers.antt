use Rattle.std.proofs.Common.{ap, ◌∙◌}
use Rattle.workers.specs.Following.{Held}
use Rattle.workers.proofs.guard.Notes.{booked_none, created_none}
use Rattle.workers.proofs.locked.Locked.renew.Goals as goal

pub invariant_of-self : goal.invariant_of-self
invariant_of-self g c =
    let broker = c.self.inside.session.broker in (
      c.self.invariant.0,
      c.self.invariant.1,
      c.self.invariant.2,
      booked_none g.J.Naming.roll.changes g.J.Naming.first.broker.words.kept broker broker c.self.inside.creating c.self.inside.creating c.self.inside.book c.release_all.new.book
          c.self.invariant.3 (c.release_all.ensures.on broker.words.kept)
          (created_none c.self.inside.creating broker.creation 0
          (ap (λ (h : Held). h.session.broker.creation) c.self.view_is ∙ c.recover_all.ensures.creation)),
    )
