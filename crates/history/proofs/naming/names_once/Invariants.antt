use Rattle.std.proofs.Common.{◌<◌, ℕ}
use Rattle.history.specs.Sweeps.{Ascends}
use Rattle.history.proofs.naming.names_once.Given as goal

abbrev pub invariant-loop-t : goal.invariant-loop-t
invariant-loop-t l = (k : ℕ) → k < l.t → Ascends l.events.items l.entries (record { 0 = k })
