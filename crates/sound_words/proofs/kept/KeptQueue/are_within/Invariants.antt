use Rattle.std.proofs.Common.{ℕ, ◌≤◌, ◌<◌}
use Rattle.arena.specs.Words.{bumps}
use Rattle.sound_words.specs.Kept.{kept_of}
use Rattle.sound_words.proofs.kept.KeptQueue.are_within.Given as goal

abbrev pub invariant-loop-t : goal.invariant-loop-t
invariant-loop-t g l = (t : ℕ) → t < l.t → bumps (kept_of l.self) t ≤ l.records
