use Rattle.std.proofs.Common.{ap, ◌∙◌}
use Rattle.workers.specs.Moments.{latest, marked_in}
use Rattle.workers.proofs.guard.Laters.{marked_is}
use Rattle.workers.proofs.marks.Assuring.assure.Goals as goal

pub returns-clause-assured : goal.returns-clause-assured
returns-clause-assured g c =
    ap (λ marks. latest (marked_in marks)) c.mark-mark.ensures.entries
    ∙ (marked_is c.self.inside.teller.entries c.marked.inside.mark ∙ c.marked.view_is)
