use Rattle.std.proofs.Common.{List, subst}
use Rattle.std.specs.Prelude.{Contains}
use Rattle.session.specs.Sessions.{Sessioned}
use Rattle.workers.proofs.guard.Laters.{latest_begins}
use Rattle.workers.proofs.marks.Marks.hear.Goals as goal

pub returns-clause-heard : goal.returns-clause-heard
returns-clause-heard g c =
    subst (λ (all : List Sessioned). Contains all c.args.marked) c.self.view_is
    (subst (Contains c.self.inside.teller.entries) c.marked.view_is
    (latest_begins c.marked.inside.mark.entries c.self.inside.teller.entries c.marked.invariant.1.some c.hear-mark.ensures.begins))
