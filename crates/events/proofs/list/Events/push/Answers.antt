use Rattle.events.proofs.KeptEvents.{events_pushed}
use Rattle.events.proofs.list.Events.push.Goals as goal

pub returns-in-Ready-clause-items : goal.returns-in-Ready-clause-items
returns-in-Ready-clause-items c =
    rw (c.push_reserved-in-Ready.ensures.items, c.keep_ready-kept.ensures.tellings, ← c.self.view_is, c.in-Ready.is)
    (events_pushed _ _ _ _ _ c.self.invariant (rw (← c.keep_ready-kept.ensures.tellings) c.keep_ready-kept.ensures.event))
