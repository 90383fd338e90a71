use Rattle.stepper.proofs.Preparing.{at_place}
use Rattle.stepper.proofs.prepare.PrepareStoreResume.step.Goals as goal

pub store_at-requires-clause-place : goal.store_at-requires-clause-place
store_at-requires-clause-place g c = at_place _ _ _ _ c.requires.point
