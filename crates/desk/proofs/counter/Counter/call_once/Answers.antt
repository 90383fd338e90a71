use Rattle.workers.proofs.Facts.{later_itself}
use Rattle.desk.proofs.counter.Counter.call_once.Goals as goal

pub returns-in_default-clause-later : goal.returns-in_default-clause-later
returns-in_default-clause-later g c = later_itself c.args.before
