use Rattle.std.proofs.Common.{◌≡◌, ◌++◌, take}
use Rattle.migration.proofs.broker.add_front.Given as goal

abbrev pub invariant-loop-word : goal.invariant-loop-word
invariant-loop-word l = l.words.items ≡ l.fn.words.items ++ take l.word l.memory.words.kept
