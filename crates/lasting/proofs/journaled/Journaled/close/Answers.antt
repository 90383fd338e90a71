use Rattle.std.proofs.Common.{◌≡◌, [], ap, subst, ◌∙◌}
use Rattle.session.specs.Sessions.{Sessioned}
use Rattle.workers.specs.Moments.{GoesOnLater}
use Rattle.lasting.specs.Lasting.{Kept}
use Rattle.lasting.proofs.Moments.{kept_more, ok_so}
use Rattle.lasting.proofs.journaled.Journaled.close.Goals as goal

pub ended-journal-requires : goal.ended-journal-requires
ended-journal-requires g c =
    let old : Kept = record {
      policy = c.kept.inside.policy;
      handed = c.kept.inside.handed.changes;
      last = c.kept.inside.handed.last;
      pending = c.kept.inside.pending.items;
      journal = c.kept.inside.journal;
      assured = c.kept.inside.handed.assured;
    } in
    let none : old.pending ≡ [] = ap (λ (k : Kept). k.pending) c.kept.view_is ∙ c.in_default.ensures.all in
    let e = c.close_handing_on-session.ensures in
    let is = c.in-Ok.is in
    kept_more g.J.Naming.first old c.close_handing_on-session.result.1.last c.close_handing_on-session.result.1.changes
    c.in-Ok.batch.items c.close_handing_on-session.result.1.assured c.kept.invariant none (rw is at e.row)
    (rw is at e.moment) (rw is at e.later) e.assured

pub returns-clause-later : goal.returns-clause-later
returns-clause-later g c =
    let e = c.close_handing_on-session.ensures in
    let is = c.in-Ok.is in
    let handed = c.close_handing_on-session.result.1 in
    ok_so c.ended-journal.result.1
    (subst (λ (last : Sessioned). GoesOnLater last c.close_handing_on-session.result.0)
    (ap (λ (k : Kept). k.last) c.kept.view_is ∙ c.in_default.ensures.last)
    (subst (λ (s : Sessioned). GoesOnLater c.kept.inside.handed.last s) (rw is at e.last) (rw is at e.later)))
