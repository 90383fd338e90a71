use Rattle.workers.proofs.Facts.{later_still}
use Rattle.desk.proofs.Calling.{renewed_since}
use Rattle.desk.proofs.counter.Counter.renewed_for.Goals as goal

pub returns-in-Err-clause-later : goal.returns-in-Err-clause-later
returns-in-Err-clause-later g c = c.worth_of-marked.ensures.later

pub returns-in-Ok-renewed-clause-renewed : goal.returns-in-Ok-renewed-clause-renewed
returns-in-Ok-renewed-clause-renewed g c =
    renewed_since c.args.before c.worth_of-marked.result.0 c.renew-marked.result.0 c.renew-marked.result.1
    c.in-Ok-renewed.field-0 c.in-Ok-renewed.is c.worth_of-marked.ensures.later c.renew-marked.ensures.renewed

pub returns-in-Ok-renewed-clause-later : goal.returns-in-Ok-renewed-clause-later
returns-in-Ok-renewed-clause-later g c =
    later_still c.args.before c.worth_of-marked.result.0 c.renew-marked.result.0 c.worth_of-marked.ensures.later
    c.renew-marked.ensures.later

pub returns-in-Err-renewed-clause-later : goal.returns-in-Err-renewed-clause-later
returns-in-Err-renewed-clause-later g c =
    later_still c.args.before c.worth_of-marked.result.0 c.renew-marked.result.0 c.worth_of-marked.ensures.later
    c.renew-marked.ensures.later
