use Rattle.std.proofs.Common.{◌≤◌, vec_capacity}
use Rattle.notes.specs.Noting.{HasNoted}
use Rattle.persist.proofs.Facts.{partly}
use Rattle.notes.proofs.differences.add_differences.Given as goal

-- the words so far are noted
abbrev pub invariant-loop-at : goal.invariant-loop-at
invariant-loop-at g l = record {
  noted : HasNoted l.initial.changes.items l.changes.items l.memory.words.kept (partly l.from l.at (g.W.KeptWords.kept_words l.words) l.memory.words.kept);
  capacity : vec_capacity l.initial.changes ≤ vec_capacity l.changes;
}
