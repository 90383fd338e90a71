use Rattle.std.proofs.Common.{◌≡◌, ◌++◌, string_bytes}
use Rattle.broker_script.specs.Play.{the_world}
use Rattle.broker_points.specs.Reports.{told_texts}
use Rattle.broker_points.proofs.texts.write_told.Given as goal

-- what the clients so far are told is written
abbrev pub invariant-loop-number : goal.invariant-loop-number
invariant-loop-number l = string_bytes l.text ≡ string_bytes l.fn.text ++ told_texts (the_world l.broker l.slot.0) l.number
