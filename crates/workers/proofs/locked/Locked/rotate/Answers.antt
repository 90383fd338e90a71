use Rattle.std.proofs.Common.{ap, sym, ◌∙◌, true, length, List}
use Rattle.events.specs.declared.event.Event.{Event}
use Rattle.named.specs.Brokers.{Brokered}
use Rattle.interleave.specs.Calls.{is_no_memory}
use Rattle.roll.specs.Rule.{rows_of}
use Rattle.workers.specs.Deeds.CameBy.{rotation}
use Rattle.workers.specs.Following.{beginnings}
use Rattle.workers.proofs.brokers.Comings.{through_rotation}
use Rattle.workers.proofs.guard.Notes.{booked_same, created_same}
use Rattle.workers.proofs.guard.Guarded.{known_if_same, named_begun, rows_begun}
use Rattle.workers.proofs.guard.Laters.{all_later, later_itself, later_rotated, session_further}
use Rattle.workers.proofs.guard.Refusals.{rotation_refused}
use Rattle.workers.proofs.histories.Stops.{rotated_empty}
use Rattle.workers.proofs.locked.Locked.rotate.Goals as goal

pub invariant_of-self-2 : goal.invariant_of-self-2
invariant_of-self-2 g c =
    let e = c.in_default.ensures in
    let a = c.all_emptied.ensures in
    let well = c.self.invariant.1 in
    let old = c.self.inside.session in
    let new = c.rotate.new.self in (
      a.keeper,
      record {
        beginning = well.beginning;
        clients = a.clients;
        followed = rows_begun (beginnings g.J.Naming.first true) new (rows_of c.all_emptied.new.keeper)
            (λ slot. sym (ap (λ (es : List Event). length es) (rotated_empty old.broker new.broker e.rotated slot))) a.rows;
        named = named_begun new.broker.directory (rows_of c.all_emptied.new.keeper) a.rows;
        promises = e.promises;
        creation = known_if_same old.broker new.broker c.self.inside.creating
            (ap (λ (b : Brokered). b.recovery) e.rotated.same) (ap (λ (b : Brokered). b.creation) e.rotated.same)
            well.creation;
        goes_on = session_further g.J.Naming.first old new well.goes_on e.goes_on;
        came = through_rotation g.J.Naming.first.broker c.self.inside.rotated old.broker new.broker well.came well.promises.broker e.rotated;
        done = rotation well.done well.promises.broker e.rotated;
        later = all_later c.self.inside.marks old new well.later
            (later_rotated old old new (later_itself old) e.goes_on well.promises.broker e.rotated);
      },
      c.self.invariant.2,
      booked_same g.J.Naming.roll.changes g.J.Naming.first.broker.words.kept old.broker new.broker c.self.inside.creating c.self.inside.creating c.self.inside.book
          c.self.invariant.3 (ap (λ (b : Brokered). b.words.kept) e.rotated.same)
          (created_same c.self.inside.creating old.broker.creation new.broker.creation
          (ap (λ (b : Brokered). b.creation) e.rotated.same)),
    )

pub returns-in-Err-clause-errors : goal.returns-in-Err-clause-errors
returns-in-Err-clause-errors g c =
    rotation_refused (is_no_memory c.rotate.result) c.self.inside.session.broker c.in-Err.refusal
    (sym c.in-Err.is ∙ c.rotate.ensures.result)
