use Rattle.std.proofs.Common.{◌<◌, ℕ}
use Rattle.events.specs.History.{EndsAt}
use Rattle.history.proofs.places.precedes.Given as goal

-- no end of the call so far
abbrev pub invariant-loop-k : goal.invariant-loop-k
invariant-loop-k l = (j : ℕ) → l.a < j → j < l.k → EndsAt l.events.items l.client j → ⊥
