use Rattle.std.proofs.Common.{◌≡◌, List, Some, ap, subst}
use Rattle.std.specs.Prelude.{slice_get}
use Rattle.roll.specs.Rule.{rows_of}
use Rattle.workers.specs.declared.entry.Entry.{Entry}
use Rattle.workers.specs.Following.{guarded_in}
use Rattle.workers.proofs.seats.GivenSeats.{accounted_by_rows}
use Rattle.workers.proofs.shared.Shared.close_handing_on.Goals as goal

pub returns-clause-lists : goal.returns-clause-lists
returns-clause-lists g c =
    let under_lock = c.hand_on-handed.new.self in
    let parts = c.into_parts-session.ensures in
    let same : rows_of c.into_parts-session.result.1 ≡ under_lock.rows = ap (λ me. me.0.rows) parts.keeper.1 in
    accounted_by_rows (λ seat. seat.list.items) g.J.Naming.clients g.J.Naming.first (guarded_in under_lock) _ c.args.seats.items
    parts.session parts.well
    (λ k seat at. subst (λ (rows : List (List Entry)). slice_get rows k ≡ Some seat.list.items) same
    (c.all_known.ensures.each k seat at))
