-- What the steps of a recording come to: events, and what was learnt of the calls that these begin.
use Rattle.std.specs.Prelude.{ℕ, ◌==◌, ◌+◌, ◌++◌, List, [], ◌∷◌, Bool, true, false, Option, Some, None, slice_get}
use Rattle.std.specs.Prelude.{length, take, fold, map, if◌then◌else◌}
use Rattle.std.specs.List.{list_any, flat_map}
use Rattle.std.specs.Option.{option_or}
use Rattle.words.specs.declared.told.Outcome.{Outcome}
use Rattle.words.specs.declared.told.Outcome.TheVariants.{NotTaken, Taken}
use Rattle.events.specs.declared.event.Event.{Event}
use Rattle.events.specs.declared.event.Event.TheVariants.{Call as call_event, Return as return_event}
use Rattle.events.specs.declared.event.Event.TheVariants.{Crash as crash_event, Ready as ready_event}
use Rattle.findings.specs.Filling.{told_nothing}
use Rattle.recording.specs.declared.act.Said.{Said}
use Rattle.recording.specs.declared.act.Act.{Act}
use Rattle.recording.specs.declared.act.Act.TheVariants.{Begin, Answer, Refuse, Crash, LearnTaken, LearnNotTaken}
use Rattle.recording.specs.declared.act.Step.{Step}
use Rattle.recording.specs.declared.act.CallOf.{CallOf}
use Rattle.recording.specs.declared.act.Recording.{Recording}
use Rattle.recording.specs.Recording.{reply_of, asked_by}

-- the first n steps
abbrev pub first_steps : Recording → ℕ → List Step
first_steps recording n = take n recording.steps.items

-- the call was refused with this
abbrev pub is_refusal : ℕ → Act → Bool
is_refusal call (Refuse other) = other == call
is_refusal call act = false

-- it was refused within these steps
abbrev pub is_refused : List Step → ℕ → Bool
is_refused steps call = list_any (λ step. is_refusal call step.act) steps

-- what this says of an interrupted call
abbrev pub outcome_said : Recording → ℕ → Act → Option Outcome
outcome_said recording call (LearnTaken other said) =
    if other == call then Some (Taken (reply_of recording said)) else None
outcome_said recording call (LearnNotTaken other) = if other == call then Some NotTaken else None
outcome_said recording call act = None

-- what these steps say of it, the last that does
abbrev pub outcome_of : Recording → List Step → ℕ → Option Outcome
outcome_of recording steps call =
    fold (λ earlier step. option_or (outcome_said recording call step.act) earlier) None steps

-- a call that begins where so many events stand: its number is by its place. One that was refused is left out
abbrev pub call_events : Recording → Bool → ℕ → Option CallOf → List Event
call_events recording true place call = []
call_events recording false place None = []
call_events recording false place (Some call) =
    call_event (record { 0 = call.number }) (place + 1) (asked_by recording call) ∷ []

-- the answer of a call
abbrev pub answer_events : Recording → Said → Option CallOf → List Event
answer_events recording said None = []
answer_events recording said (Some call) = return_event (record { 0 = call.number }) (reply_of recording said) ∷ []

-- the events that this comes to within these steps, where so many events stand
abbrev pub events_by : Recording → List Step → ℕ → Act → List Event
events_by recording steps place (Begin call) =
    call_events recording (is_refused steps call) place (slice_get recording.calls.items call)
events_by recording steps place (Answer call said) =
    answer_events recording said (slice_get recording.calls.items call)
events_by recording steps place Crash = crash_event ∷ ready_event told_nothing ∷ []
events_by recording steps place act = []

-- the events of the first so many of these steps, one after another; Readys tell nothing
abbrev pub events_up_to : Recording → List Step → ℕ → List Event
events_up_to recording steps n =
    fold (λ events step. events ++ events_by recording steps (length events) step.act) [] (take n steps)

-- the events that these steps come to
abbrev pub events_of : Recording → List Step → List Event
events_of recording steps = events_up_to recording steps (length steps)

-- what was learnt of the call that this begins, if it begins one
abbrev pub learnt_by : Recording → List Step → Act → Option Outcome
learnt_by recording steps (Begin call) = outcome_of recording steps call
learnt_by recording steps act = None

-- the same for each event of the first so many of these steps
abbrev pub learnt_up_to : Recording → List Step → ℕ → List (Option Outcome)
learnt_up_to recording steps n = flat_map
    (λ step. map (λ event. learnt_by recording steps step.act) (events_by recording steps 0 step.act))
    (take n steps)

-- what was learnt of calls by these steps, at the places of the events
abbrev pub learnt_of : Recording → List Step → List (Option Outcome)
learnt_of recording steps = learnt_up_to recording steps (length steps)
