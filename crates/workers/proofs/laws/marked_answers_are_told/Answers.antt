use Rattle.std.proofs.Common.{refl}
use Rattle.workers.specs.Lists.{HasEntryAt}
use Rattle.workers.proofs.lists.Marks.{marked_settled, marked_taken, marked_told}
use Rattle.workers.proofs.laws.marked_answers_are_told.Goals as goal

pub returns-clause-taken : goal.returns-clause-taken
returns-clause-taken c = λ first session client list marked w place reply call.
    marked_taken first client list session call.slot place w reply marked call.here call.has call.ended

pub returns-clause-settled : goal.returns-clause-settled
returns-clause-settled c = λ first session client list marked number reply has.
    let at : HasEntryAt list has.entry.queue.0 has.ran.place = record {
      index = has.index;
      entry = has.entry;
      at = has.at;
      ran = (refl, has.ran.place_is);
    } in
    marked_settled first client list session has.entry.queue.0 has.ran.place has.ran.world reply marked has.ran.here at
    has.end number has.ran.number_is has.ran.ready has.ran.log has.ran.few has.ran.idle

pub returns-clause-told : goal.returns-clause-told
returns-clause-told c = λ first session client list marked number reply has.
    let at : HasEntryAt list has.entry.queue.0 has.ran.place = record {
      index = has.index;
      entry = has.entry;
      at = has.at;
      ran = (refl, has.ran.place_is);
    } in
    marked_told first client list session has.entry.queue.0 has.ran.place has.ran.world reply marked has.ran.here at
    has.end number has.ran.number_is has.ran.ready has.ran.log has.ran.few has.ran.idle
