use Rattle.std.proofs.Common.{ℕ, ◌<◌}
use Rattle.directory.specs.Sound.{SlotIsSoundIn}
use Rattle.directory.proofs.soundness.are_slots_sound.Given as goal

abbrev pub invariant-loop-slot : goal.invariant-loop-slot
invariant-loop-slot g l = (slot : ℕ) → slot < l.slot → SlotIsSoundIn l.form l.layout (g.W.KeptWords.kept_words l.words) slot
