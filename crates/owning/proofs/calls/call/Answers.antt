use Rattle.owning.proofs.Going.{stays_right}
use Rattle.owning.proofs.calls.call.Goals as goal

pub returns-in_err-client-clause-goes_on : goal.returns-in_err-client-clause-goes_on
returns-in_err-client-clause-goes_on c = stays_right c.args.session.now c.requires.promises

pub returns-in_err-queue-clause-goes_on : goal.returns-in_err-queue-clause-goes_on
returns-in_err-queue-clause-goes_on c = stays_right c.args.session.now c.requires.promises
