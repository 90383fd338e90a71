use Rattle.std.proofs.Common.{◌≡◌, ◌++◌, take, string_bytes}
use Rattle.std.specs.List.{flat_map}
use Rattle.playing.specs.Prints.{spaced_value}
use Rattle.script_reports.proofs.reports.write_values.Given as goal

-- the values so far are written
abbrev pub invariant-loop-value : goal.invariant-loop-value
invariant-loop-value l =
    string_bytes l.text ≡ string_bytes l.fn.text ++ flat_map spaced_value (take l.value-index l.values)
