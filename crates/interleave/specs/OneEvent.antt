-- The event that an act adds to the history, if it adds one.
use Rattle.std.specs.Prelude.{List, [], ◌∷◌, Option, Some, None, Result, Ok, Err, false, ℕ}
use Rattle.words.specs.declared.call.Call.{Call}
use Rattle.words.specs.declared.call.Client.{Client}
use Rattle.words.specs.declared.call.Reply.{Reply}
use Rattle.words.specs.declared.refusal.Refusal.{Refusal}
use Rattle.words.specs.declared.told.Told.{Told}
use Rattle.events.specs.declared.event.Event.{Event}
use Rattle.events.specs.declared.event.Event.TheVariants.{Call as call_event, Return as return_event, Crash as crash_event, Ready as ready_event}
use Rattle.stepper.specs.declared.resume.After.{After}
use Rattle.stepper.specs.declared.resume.After.TheVariants.{More as go_on, Done as Ready}
use Rattle.recover.specs.declared.recovery.Recovery.{Recovery}
use Rattle.protocol.specs.Machine.{next_recovery}
use Rattle.interleave.specs.State.{State, machine, number_to_start, start_result, step_result}
use Rattle.protocol.specs.declared.acts.Act.{Act}
use Rattle.protocol.specs.declared.acts.Act.TheVariants.{Start, Step, Evict, Crash, Recover}

-- the Call of a start that is accepted
abbrev pub call_events : Result Unit Refusal → Result ℕ Refusal → Client → Call → List Event
call_events (Ok u) (Ok number) client call = call_event client number call ∷ []
call_events (Ok u) (Err refusal) client call = []
call_events (Err refusal) number client call = []

-- the Return of a step that answers
abbrev pub return_events : Result (Option Reply) Refusal → Client → List Event
return_events (Ok (Some reply)) client = return_event client reply ∷ []
return_events (Ok None) client = []
return_events (Err refusal) client = []

-- the Ready of recovery's last step
abbrev pub ready_events : After Recovery (List Told) → List Event
ready_events (go_on r) = []
ready_events (Ready told) = ready_event told ∷ []

abbrev pub ready_events_by : State → Option Recovery → List Event
ready_events_by w None = []
ready_events_by w (Some r) = ready_events (next_recovery (machine w) r)

abbrev pub event_of : State → Act ℕ → List Event
event_of w (Start client number call) =
    call_events (start_result false w client number call) (number_to_start w client number call) client call
event_of w (Step client) = return_events (step_result false w client) client
event_of w (Evict word) = []
event_of w Crash = crash_event ∷ []
event_of w Recover = ready_events_by w w.recovery
