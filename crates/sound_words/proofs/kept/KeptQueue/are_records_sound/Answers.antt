use Rattle.std.proofs.Common.{below_more}
use Rattle.sound_words.proofs.kept.KeptQueue.are_records_sound.Goals as goal

pub loop-number-preserved : goal.loop-number-preserved
loop-number-preserved g c = below_more _ _ c.loop-number.invariant (λ low. c.is_blank_if_unused.ensures.0 c.if-not-is_blank_if_unused.false)
