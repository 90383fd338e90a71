use Rattle.std.proofs.Common.{◌≡◌, ℕ, ◌<◌, get_or, true, false}
use Rattle.std.specs.Prelude.{◌≢◌}
use Rattle.recording.proofs.reader.are_distinct.Given as goal

abbrev pub invariant-loop-i : goal.invariant-loop-i
invariant-loop-i l = record {
  seen : (k : ℕ) → k < l.i → get_or l.seen.items (get_or l.ranks k 0) false ≡ true;
  distinct : (j k : ℕ) → j < k → k < l.i → get_or l.ranks j 0 ≢ get_or l.ranks k 0;
}
