use Rattle.workers.proofs.Facts.{later_itself}
use Rattle.desk.proofs.counter.Counter.worth_of.Goals as goal

pub returns-in-Err-clause-later : goal.returns-in-Err-clause-later
returns-in-Err-clause-later g c = later_itself c.args.before
