use Rattle.std.proofs.Common.{ℕ, ◌<◌, ◌≤◌, length}
use Rattle.persist.specs.ChangeList.{word_at}
use Rattle.persist.proofs.changes.search_back.Given as goal

abbrev pub invariant-loop-at : goal.invariant-loop-at
invariant-loop-at l = record {
  within : l.at ≤ length l.entries;
  higher_after : (j : ℕ) → l.at ≤ j → j < length l.entries → l.word < word_at l.entries j;
}

abbrev pub decreases-loop-at : goal.decreases-loop-at
decreases-loop-at l = l.at
