use Rattle.std.proofs.Common.{◌<◌, ℕ}
use Rattle.history.specs.Sweeps.{IsInTurn}
use Rattle.history.proofs.arising.all_in_turn.Given as goal

abbrev pub invariant-loop-t : goal.invariant-loop-t
invariant-loop-t l = (k : ℕ) → k < l.t → IsInTurn l.events.items (record { 0 = k })
