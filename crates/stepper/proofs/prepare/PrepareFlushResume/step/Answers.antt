use Rattle.stepper.proofs.Preparing.{at_place}
use Rattle.stepper.proofs.prepare.PrepareFlushResume.step.Goals as goal

pub flush_at-requires-clause-place : goal.flush_at-requires-clause-place
flush_at-requires-clause-place g c = at_place _ _ _ _ c.requires.point
