use Rattle.std.proofs.Common.{ap, sym, subst, ◌∙◌}
use Rattle.std.specs.Prelude.{All}
use Rattle.workers.specs.Moments.{AreMarks, GoesOnLater, latest}
use Rattle.workers.proofs.guard.Laters.{latest_is, marks_more}
use Rattle.workers.proofs.marks.Marks.mark.Goals as goal

pub invariant_of-result : goal.invariant_of-result
invariant_of-result g c =
    let session = c.args.session.now in
    let before = subst (All (λ m. GoesOnLater m session)) (sym c.self.view_is) c.requires in (
      c.mark-mark.ensures.row ∙ c.self.invariant,
      subst AreMarks (sym c.mark-mark.ensures.entries) (marks_more c.self.inside.teller.entries session before),
    )

pub returns-clause-mark : goal.returns-clause-mark
returns-clause-mark g c =
    ap latest c.mark-mark.ensures.entries ∙ latest_is c.self.inside.teller.entries c.args.session.now
