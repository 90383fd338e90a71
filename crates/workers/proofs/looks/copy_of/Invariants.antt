use Rattle.std.proofs.Common.{◌≡◌, ◌<◌, ℕ, length, slice_get}
use Rattle.arena.specs.declared.broker.TheConstants.{SLOTS}
use Rattle.workers.proofs.looks.copy_of.Given as goal

-- the places so far are the same
abbrev pub invariant-loop-slot : goal.invariant-loop-slot
invariant-loop-slot l =
    (length l.copied ≡ SLOTS) × ((k : ℕ) → k < l.slot → slice_get l.copied k ≡ slice_get l.places k)
