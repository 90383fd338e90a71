-- A table of what became of calls.
use Rattle.std.specs.Prelude.{ℕ, ◌≡◌, ◌<◌, List, Some, slice_get, length}
use Rattle.recording.specs.declared.act.Step.{Step}
use Rattle.recording.specs.declared.act.Recording.{Recording}
use Rattle.prefixes.specs.declared.facts.Fate.{Fate}
use Rattle.prefixes.specs.Steps.{is_refused, outcome_of}

-- what the steps say became of a call
abbrev pub fate_of : Recording → List Step → ℕ → Fate
fate_of recording steps call =
    record { is_refused = is_refused steps call; outcome = outcome_of recording steps call }

-- the table has that of each call
pub record AreFatesOf (recording : Recording) (steps : List Step) (fates : List Fate) : Type 0 where
  pub count : length fates ≡ length recording.calls.items
  pub each : (call : ℕ) → call < length fates → slice_get fates call ≡ Some (fate_of recording steps call)
