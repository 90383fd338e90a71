use Rattle.std.proofs.Common.{ap, sym, true, length, List}
use Rattle.events.specs.declared.event.Event.{Event}
use Rattle.roll.specs.Rule.{rows_of}
use Rattle.workers.specs.Deeds.CameBy.{renewal}
use Rattle.workers.specs.Following.{beginnings}
use Rattle.workers.proofs.brokers.Comings.{through_renewal}
use Rattle.workers.proofs.guard.Notes.{booked_none, created_none}
use Rattle.workers.proofs.guard.Guarded.{named_begun, rows_begun}
use Rattle.workers.proofs.guard.Laters.{all_later, later_itself, later_renewed, session_further}
use Rattle.workers.proofs.histories.Renewals.{known_if_renewed, renewal_refused, renewed_empty}
use Rattle.workers.proofs.guard.Room.{room_when_renewed}
use Rattle.workers.proofs.locked.Locked.begin_renewed.Goals as goal

pub invariant_of-self-2 : goal.invariant_of-self-2
invariant_of-self-2 g c =
    let e = c.in_default.ensures in
    let a = c.all_emptied.ensures in
    let well = c.self.invariant.1 in
    let old = c.self.inside.session in
    let new = c.renew.new.session in (
      a.keeper,
      record {
        beginning = well.beginning;
        clients = a.clients;
        followed = rows_begun (beginnings g.J.Naming.first true) new (rows_of c.all_emptied.new.keeper)
            (λ at. sym (ap (λ (es : List Event). length es)
            (renewed_empty old.broker new.broker c.args.slot.0 e.promises.broker.well e.renewed at))) a.rows;
        named = named_begun new.broker.directory (rows_of c.all_emptied.new.keeper) a.rows;
        promises = e.promises;
        creation = known_if_renewed old.broker new.broker c.self.inside.creating c.args.slot.0 e.may e.renewed well.creation;
        goes_on = session_further g.J.Naming.first old new well.goes_on e.goes_on;
        came = through_renewal g.J.Naming.first.broker c.self.inside.rotated old.broker new.broker c.args.slot.0 well.came
            well.promises.broker e.renewed;
        done = renewal well.done well.promises.broker e.renewed;
        later = all_later c.self.inside.marks old new well.later
            (later_renewed old old new c.args.slot.0 (later_itself old) e.goes_on well.promises.broker e.renewed);
      },
      c.self.invariant.2,
      booked_none g.J.Naming.roll.changes g.J.Naming.first.broker.words.kept old.broker new.broker c.self.inside.creating c.self.inside.creating c.self.inside.book
          c.renew.new.book c.self.invariant.3 e.on
          (created_none c.self.inside.creating new.broker.creation 0 e.renewed.booted.creation),
    )

pub returns-in-Err-clause-errors : goal.returns-in-Err-clause-errors
returns-in-Err-clause-errors g c =
    renewal_refused g.J.Naming.clients g.J.Naming.first _ c.self.invariant.1 c.args.slot c.in-Err.refusal
    c.in-Err.ensures.errors

pub returns-clause-room : goal.returns-clause-room
returns-clause-room g c =
    let e = c.in_default.ensures in
    room_when_renewed c.self.inside.session.broker c.renew.new.session.broker c.args.slot.0 e.renewed e.room
