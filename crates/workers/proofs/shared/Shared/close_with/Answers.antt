use Rattle.std.proofs.Common.{◌≡◌, List, Some, ap, sym, subst, ◌∙◌}
use Rattle.std.specs.Prelude.{All, slice_get}
use Rattle.roll.specs.Rule.{rows_of}
use Rattle.session.specs.Sessions.{Sessioned}
use Rattle.workers.specs.declared.entry.Entry.{Entry}
use Rattle.workers.specs.Following.{guarded_in}
use Rattle.workers.specs.Deeds.{CameBy}
use Rattle.workers.specs.Moments.{GoesOnLater}
use Rattle.workers.specs.declared.deeds.Deed.{Deed}
use Rattle.workers.proofs.seats.GivenSeats.{accounted_by_rows}
use Rattle.workers.proofs.shared.Shared.close_with.Goals as goal

pub returns-clause-lists : goal.returns-clause-lists
returns-clause-lists g c =
    let under_lock = c.hear_all.new.self in
    let parts = c.into_parts-session.ensures in
    let same : rows_of c.into_parts-session.result.1 ≡ under_lock.rows = ap (λ me. me.0.rows) parts.keeper.1 in
    accounted_by_rows (λ seat. seat.list.items) g.J.Naming.clients g.J.Naming.first (guarded_in under_lock) _ c.args.seats.items
    parts.session parts.well
    (λ k seat at. subst (λ (rows : List (List Entry)). slice_get rows k ≡ Some seat.list.items) same
    (c.all_known.ensures.each k seat at))

pub returns-clause-stops : goal.returns-clause-stops
returns-clause-stops g c =
    let parts = c.into_parts-session.ensures in
    let heard = c.hear.ensures in
    record {
      deeds = rows_of c.hear.new.self.keeper;
      came = subst (λ (rows : List (List Deed)). CameBy g.J.Naming.first.broker rows c.into_parts-session.result.0.broker)
          (sym (ap (λ me. me.0.rows) heard.keeper.1 ∙ ap (λ me. me.0.rows) parts.register.1))
          (subst (λ (s : Sessioned). CameBy g.J.Naming.first.broker c.hear_all.new.self.deeds s.broker) (sym parts.session)
          parts.well.done);
      stopped = subst (λ (rows : List (List Deed)). slice_get rows 0 ≡ Some c.args.operator)
          (sym (ap (λ me. me.0.rows) heard.keeper.1)) heard.known;
    }

pub returns-clause-later : goal.returns-clause-later
returns-clause-later g c =
    subst (λ (s : Sessioned). All (λ marked. GoesOnLater marked s) c.args.marks.items) (sym c.into_parts-session.ensures.session)
    c.hear_all.ensures.later
