-- The one access of a waiting point over words, of a call and of recovery: what it leaves and changes, what it finds, and
-- what comes next.
use Rattle.std.specs.Prelude.{ℕ, List, Option}
use Rattle.words.specs.declared.call.Reply.{Reply}
use Rattle.words.specs.declared.told.Told.{Told}
use Rattle.persist.specs.Memory.{Lent, Words}
use Rattle.persist.specs.declared.access.Change.{Change}
use Rattle.arena.specs.Shape.{Shape}
use Rattle.stepper.specs.Step.{after_one, change_by, lent_after_one, value_found, IsReadInRange}
use Rattle.stepper.specs.declared.resume.After.{After}
use Rattle.helping.specs.Table.{access_of, successor}
use Rattle.helping.specs.declared.op.Op.{Op}
use Rattle.recover.specs.Table.{access_of as recovery_access, recovery_after}
use Rattle.recover.specs.declared.recovery.Recovery.{Recovery}

-- the words after the access of a call's point, and how they are lent then
abbrev pub words_by_op : Shape → Op → Words → Words
words_by_op s op ws = after_one s (access_of s.kind op) ws

abbrev pub lent_by_op : Shape → Op → Lent → Lent
lent_by_op s op lent = lent_after_one s (access_of s.kind op) lent

-- the change of a kept value that it makes
abbrev pub change_by_op : Shape → Op → Words → Option Change
change_by_op s op ws = change_by s (access_of s.kind op) ws

-- the value that it finds, and what comes next by the table
abbrev pub found_by_op : Shape → Op → Words → ℕ
found_by_op s op ws = value_found s (access_of s.kind op) ws

abbrev pub next_by_op : Shape → Op → Words → After Op Reply
next_by_op s op ws = successor s.kind op (found_by_op s op ws)

-- the value found is in the range of what the point reads
abbrev pub FindsInRange : Shape → Op → ℕ → Type 0
FindsInRange s op found = IsReadInRange s (access_of s.kind op) found

-- the same of the point where recovery waits
abbrev pub words_by_recovery : Shape → Recovery → Words → Words
words_by_recovery s r ws = after_one s (recovery_access s.kind r.at) ws

abbrev pub lent_by_recovery : Shape → Recovery → Lent → Lent
lent_by_recovery s r lent = lent_after_one s (recovery_access s.kind r.at) lent

abbrev pub change_by_recovery : Shape → Recovery → Words → Option Change
change_by_recovery s r ws = change_by s (recovery_access s.kind r.at) ws

abbrev pub next_by_recovery : Shape → Recovery → Words → After Recovery (List Told)
next_by_recovery s r ws = recovery_after s r (value_found s (recovery_access s.kind r.at) ws)
