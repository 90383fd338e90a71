use Rattle.std.proofs.Common.{below_more}
use Rattle.sound_words.proofs.kept.KeptQueue.are_in_range.Goals as goal

pub loop-node-preserved : goal.loop-node-preserved
loop-node-preserved g c = below_more _ _ c.loop-node.invariant (c.holds_item.ensures.0 c.if-not-holds_item.false)
