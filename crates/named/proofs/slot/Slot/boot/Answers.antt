use Rattle.named.proofs.acts.Refused.{nothing, why}
use Rattle.named.proofs.slot.Slot.boot.Goals as goal

pub returns-in_err-block-clause-booted : goal.returns-in_err-block-clause-booted
returns-in_err-block-clause-booted c = nothing _ c.from_residual.result c.in_err-block.field-0.0 c.from_residual.ensures

pub returns-in_err-block-clause-errors : goal.returns-in_err-block-clause-errors
returns-in_err-block-clause-errors c = why _ c.from_residual.result c.in_err-block.field-0.0 c.from_residual.ensures c.in_err-block.ensures.errors

pub returns-clause-errors : goal.returns-clause-errors
returns-clause-errors c = tt
