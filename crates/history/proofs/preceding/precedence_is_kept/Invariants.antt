use Rattle.std.proofs.Common.{◌<◌, ◌≤◌, ℕ}
use Rattle.history.specs.Plainly.{IsNotAfter}
use Rattle.history.specs.Sweeps.{IsGreatest}
use Rattle.history.proofs.preceding.precedence_is_kept.Given as goal

abbrev pub invariant-loop-i : goal.invariant-loop-i
invariant-loop-i l = record {
  greatest : IsGreatest l.entries l.i l.greatest;
  kept : (i : ℕ) → i < l.i → (j : ℕ) → j ≤ i → IsNotAfter l.events.items l.entries i j;
}
