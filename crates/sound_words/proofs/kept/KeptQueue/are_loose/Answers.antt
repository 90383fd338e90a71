use Rattle.std.proofs.Common.{below_more}
use Rattle.sound_words.proofs.kept.KeptQueue.are_loose.Goals as goal

pub loop-node-preserved : goal.loop-node-preserved
loop-node-preserved g c = below_more _ _ c.loop-node.invariant (λ low. c.is_loose_if_off.ensures.0 c.if-not-is_loose_if_off.false)
