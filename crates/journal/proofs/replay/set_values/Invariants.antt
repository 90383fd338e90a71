use Rattle.std.proofs.Common.{◌≡◌, take}
use Rattle.journal.specs.Reading.{values_set}
use Rattle.journal.proofs.replay.set_values.Given as goal

-- the changes so far are made
abbrev pub invariant-loop-change : goal.invariant-loop-change
invariant-loop-change l = l.words ≡ values_set l.fn.words (take l.change-index l.changes)
