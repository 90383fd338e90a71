use Rattle.workers.proofs.Facts.{later_itself}
use Rattle.desk.proofs.calls.answer_at_seat.Goals as goal

pub returns-in-None-clause-later : goal.returns-in-None-clause-later
returns-in-None-clause-later g c = later_itself c.args.before
