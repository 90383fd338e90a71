use Rattle.words.specs.declared.call.Reply.{Reply}
use Rattle.arena.specs.Shape.{Shape}
use Rattle.stepper.specs.declared.resume.After.{After}
use Rattle.stepper.specs.declared.resume.After.TheVariants.{More, Done}
use Rattle.helping.specs.declared.op.Op.{Op}
use Rattle.protocol.proofs.Facts.{recovery_point}
use Rattle.interleave.specs.Holds.{from_invariant}
use Rattle.interleave.specs.Premises.{IsMoreInRange}
use Rattle.interleave.specs.State.{machine}
use Rattle.interleave.proofs.machine.Holding.{recovery_reads}
use Rattle.interleave.proofs.words.Accesses.{AfterFits, successor_fits}
use Rattle.interleave.proofs.words.Ranges.{call_fits, read_fits}
use Rattle.interleave.proofs.laws.steps_stay_in_range.Goals as goal

as_more : (s : Shape) (after : After Op Reply) → AfterFits s after → IsMoreInRange s after
as_more s (More op) fits = fits
as_more s (Done reply) fits = tt

pub returns-clause-successors : goal.returns-clause-successors
returns-clause-successors c = λ s op found point read. as_more s _ (successor_fits s op found point read)

pub returns-clause-calls : goal.returns-clause-calls
returns-clause-calls c = λ w client call holds here.
    let fits = call_fits w.shape w.words w.calls client.0 call holds.safe here in
    record { room = holds.safe.words.room; point = fits.point; read = read_fits w.shape w.words w.calls call holds.safe fits }

pub returns-clause-recovery : goal.returns-clause-recovery
returns-clause-recovery c = λ w r holds here. record {
  room = holds.safe.words.room;
  point = recovery_point (machine w) (from_invariant _ holds.inv) r here;
  read = recovery_reads w r holds here;
}
