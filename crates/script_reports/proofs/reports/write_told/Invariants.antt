use Rattle.std.proofs.Common.{◌≡◌, ◌++◌, take, string_bytes}
use Rattle.std.specs.List.{flat_map}
use Rattle.script_reports.specs.Reports.{later_told_text}
use Rattle.script_reports.proofs.reports.write_told.Given as goal

-- those so far are written
abbrev pub invariant-loop-told : goal.invariant-loop-told
invariant-loop-told l =
    string_bytes l.text ≡ string_bytes l.initial.text ++ flat_map later_told_text (take l.told-index l.rest)
