-- Events as they are kept: what Readys tell stands in a list of its own.
use Rattle.std.specs.Prelude.{◌<◌, ⊤, List, [], length, map, slice_index_or}
use Rattle.words.specs.declared.told.Told.{Told}
use Rattle.events.specs.declared.event.Event.{Event}
use Rattle.events.specs.declared.event.Event.TheVariants.{Call as call_event, Return as return_event}
use Rattle.events.specs.declared.event.Event.TheVariants.{Crash as crash_event, Ready as ready_event}
use Rattle.events.specs.declared.kept.Kept.{Kept}
use Rattle.events.specs.declared.kept.Kept.TheVariants.{Call as kept_call, Return as kept_return}
use Rattle.events.specs.declared.kept.Kept.TheVariants.{Crash as kept_crash, Ready as kept_ready}

-- the event that is kept so
abbrev pub event_of : List (List Told) → Kept → Event
event_of tellings (kept_call client number call) = call_event client number call
event_of tellings (kept_return client reply) = return_event client reply
event_of tellings kept_crash = crash_event
event_of tellings (kept_ready telling) = ready_event (slice_index_or tellings telling [])

-- the events that are kept so
abbrev pub events_of : List (List Told) → List Kept → List Event
events_of tellings kept = map (event_of tellings) kept

-- what a Ready tells is in the list
abbrev pub IsToldIn : List (List Told) → Kept → Type 0
IsToldIn tellings (kept_call client number call) = ⊤
IsToldIn tellings (kept_return client reply) = ⊤
IsToldIn tellings kept_crash = ⊤
IsToldIn tellings (kept_ready telling) = telling < length tellings
