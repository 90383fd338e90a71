use Rattle.directory.proofs.Broken.{shut, unlocked}
use Rattle.directory.proofs.soundness.is_slot_sound.Goals as goal

pub returns-in-0 : goal.returns-in-0
returns-in-0 g c = shut _ _ _ c.args.slot.0 _ c.kept_at.ensures c.in-0.is _ c.is_block_zero.ensures

pub returns-in-1 : goal.returns-in-1
returns-in-1 g c = unlocked _ _ _ c.args.slot.0 _ c.kept_at.ensures c.in-1.is _ c.queue_in.ensures _ c.is_some.ensures
