use borrow.Author.Count.{below_more}
use Rattle.directory.specs.Sound.{SlotIsSoundIn}
use Rattle.directory.proofs.soundness.are_slots_sound.Goals as goal

pub loop-slot-preserved : goal.loop-slot-preserved
loop-slot-preserved g c =
    below_more (λ slot. SlotIsSoundIn c.args.form c.args.layout.now (g.W.KeptWords.kept_words c.args.words.now) slot) c.loop-slot.slot
    c.loop-slot.invariant (c.is_slot_sound.ensures.0 c.if-not-is_slot_sound.false)
