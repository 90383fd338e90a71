use Rattle.std.proofs.Common.{◌≡◌, take, string_bytes}
use Rattle.std.specs.List.{flat_map}
use Rattle.script_reports.specs.Reports.{ended_alone_text}
use Rattle.script_reports.proofs.reports.calls_text.Given as goal

-- the calls so far are written
abbrev pub invariant-loop-call : goal.invariant-loop-call
invariant-loop-call l = string_bytes l.text ≡ flat_map ended_alone_text (take l.call-index l.calls)
