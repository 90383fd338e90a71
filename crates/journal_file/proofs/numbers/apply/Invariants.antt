use Rattle.std.proofs.Common.{◌≡◌, take}
use Rattle.persist.specs.Noted.{applied}
use Rattle.journal_file.proofs.numbers.apply.Given as goal

-- the changes so far are made
abbrev pub invariant-loop-change : goal.invariant-loop-change
invariant-loop-change l = l.words ≡ applied (take l.change-index l.changes) l.fn.words
