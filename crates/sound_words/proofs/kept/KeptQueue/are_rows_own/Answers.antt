use Rattle.std.proofs.Common.{below_more}
use Rattle.sound_words.proofs.kept.KeptQueue.are_rows_own.Goals as goal

pub loop-t-preserved : goal.loop-t-preserved
loop-t-preserved g c = below_more _ _ c.loop-t.invariant (c.is_row_sound.ensures.0 c.if-not-is_row_sound.false)
