use Rattle.std.proofs.Common.{◌<◌, ℕ}
use Rattle.history.specs.Sweeps.{IsAnsweredOf}
use Rattle.history.proofs.answering.all_answered.Given as goal

abbrev pub invariant-loop-t : goal.invariant-loop-t
invariant-loop-t l = (k : ℕ) → k < l.t → IsAnsweredOf l.events.items l.entries (record { 0 = k })
