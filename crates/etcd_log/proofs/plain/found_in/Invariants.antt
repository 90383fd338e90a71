use Rattle.std.proofs.Common.{◌≡◌, take}
use Rattle.etcd_log.specs.Plain.{pieces_of, seen_in}
use Rattle.etcd_log.proofs.plain.found_in.Given as goal

-- it is the piece after the changes so far
abbrev pub invariant-loop-change : goal.invariant-loop-change
invariant-loop-change l = seen_in l.found ≡ pieces_of (take l.change-index l.changes) l.generation l.number
