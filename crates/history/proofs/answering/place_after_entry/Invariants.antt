use Rattle.std.proofs.Common.{◌<◌, ◌≤◌, ◌≡◌, ℕ, slice_get, Some}
use Rattle.events.specs.declared.event.Entry.{Entry}
use Rattle.history.proofs.answering.place_after_entry.Given as goal

-- no entry of the call so far
abbrev pub invariant-loop-i : goal.invariant-loop-i
invariant-loop-i l = (k : ℕ) (entry : Entry) → k < l.i → l.from ≤ k → slice_get l.entries k ≡ Some entry
    → entry.place ≡ l.p → ⊥
