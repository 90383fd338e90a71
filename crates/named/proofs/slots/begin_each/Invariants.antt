use Rattle.std.specs.Prelude.{length, map}
use Rattle.named.proofs.histories.Rotations.{AreBegunFrom}
use Rattle.named.proofs.slots.begin_each.Given as goal

abbrev pub invariant-loop-base : goal.invariant-loop-base
invariant-loop-base l = AreBegunFrom l.memory.words l.fn.slots (map (λ base. base.items) l.fn.bases.items) l.slots (map (λ base. base.items) l.bases.items)

abbrev pub decreases-loop-base : goal.decreases-loop-base
decreases-loop-base l = length l.bases.items
