use Rattle.std.proofs.Common.{◌≡◌, ◌+◌, ◌++◌, drop, map, string_bytes}
use Rattle.explore.specs.Points.{found_of}
use Rattle.script_reports.specs.Reports.{numbered_text}
use Rattle.script_reports.proofs.reports.report_text.Given as goal

-- what is written, and the lines of the points that are left, are all
abbrev pub invariant-loop-place : goal.invariant-loop-place
invariant-loop-place l =
    string_bytes l.text
    ++ numbered_text l.clients (l.from + l.place) (map found_of (drop l.place l.fn.report.points.items))
    ≡ numbered_text l.clients l.from (map found_of l.fn.report.points.items)
