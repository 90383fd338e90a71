use Rattle.named.proofs.acts.Refused.{nothing, why}
use Rattle.named.proofs.broker.Broker.queue.Goals as goal

pub returns-in_err-slot-clause-world : goal.returns-in_err-slot-clause-world
returns-in_err-slot-clause-world c = nothing _ c.from_residual.result c.in_err-slot.field-0.0 c.from_residual.ensures

pub returns-in_err-slot-clause-well : goal.returns-in_err-slot-clause-well
returns-in_err-slot-clause-well c = nothing _ c.from_residual.result c.in_err-slot.field-0.0 c.from_residual.ensures

pub returns-in_err-slot-clause-whole : goal.returns-in_err-slot-clause-whole
returns-in_err-slot-clause-whole c = c.in_err-slot.ensures.whole

pub returns-in_err-slot-clause-errors : goal.returns-in_err-slot-clause-errors
returns-in_err-slot-clause-errors c = why _ c.from_residual.result c.in_err-slot.field-0.0 c.from_residual.ensures c.in_err-slot.ensures.errors

pub returns-clause-whole : goal.returns-clause-whole
returns-clause-whole c = c.in_ok-slot.ensures.whole
