use Rattle.std.proofs.Common.{◌≡◌, take, string_bytes}
use Rattle.broker_lines.specs.Prints.{text_of}
use Rattle.broker_lines.proofs.lines.text.Given as goal

-- the lines so far are written
abbrev pub invariant-loop-line : goal.invariant-loop-line
invariant-loop-line l = string_bytes l.text ≡ text_of (take l.line-index l.lines)
