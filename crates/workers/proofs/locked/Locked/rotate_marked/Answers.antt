use Rattle.workers.proofs.guard.Laters.{later_still}
use Rattle.workers.proofs.locked.Locked.rotate_marked.Goals as goal

pub returns-clause-later : goal.returns-clause-later
returns-clause-later g c =
    later_still c.args.before c.mark_after-marked.result c.mark_after-marked-2.result c.mark_after-marked.ensures.before
    c.mark_after-marked-2.ensures.before
