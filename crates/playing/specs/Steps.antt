-- Steps are counted; a count stays at its greatest value.
use Rattle.std.specs.Prelude.{ℕ, ◌+◌, min, slice_index, slice_set}
use Rattle.words.specs.declared.call.Client.{Client}
use Rattle.playing.specs.declared.steps.Steps.{Steps}

abbrev pub count_after : ℕ → ℕ → ℕ
count_after more steps = min (steps + more) 18446744073709551615

-- those of a client's call
abbrev pub call_counted : ℕ → Client → Steps → Steps
call_counted more client steps =
    record steps { calls = slice_set steps.calls client.0 (count_after more (slice_index steps.calls client.0)) }

-- and one of recovery
abbrev pub recovery_counted : Steps → Steps
recovery_counted steps = record steps { recovery = count_after 1 steps.recovery }
