use Rattle.owning.proofs.Going.{stays_right}
use Rattle.owning.proofs.creating.create.Goals as goal

pub returns-in_err-name-clause-goes_on : goal.returns-in_err-name-clause-goes_on
returns-in_err-name-clause-goes_on c = stays_right c.args.session.now c.requires.promises
