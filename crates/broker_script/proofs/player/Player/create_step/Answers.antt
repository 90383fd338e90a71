use Rattle.broker_script.proofs.Created.{opened_if}
use Rattle.broker_script.proofs.player.Player.create_step.Goals as goal

pub returns-in-Ok-clause-opened : goal.returns-in-Ok-clause-opened
returns-in-Ok-clause-opened c =
    let by = c.in-Ok.ensures in
    opened_if c.self.inside.session.broker c.create_step.new.self.broker c.in-Ok.opened c.self.invariant.broker.well
    (record { down = by.down; idle = by.idle; same = by.same; step = by.step; others = by.others; goes_on = by.queues })
