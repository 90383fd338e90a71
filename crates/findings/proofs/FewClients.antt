-- Recordings of few clients.
use Rattle.std.proofs.Common.{ℕ, ◌≡◌, List, Option, Some, slice_get, ap, arith, ◌∙◌}
use Rattle.std.proofs.lemmas.Option.{slice_get-get_or}
use Rattle.words.specs.declared.told.Outcome.{Outcome}
use Rattle.events.specs.declared.event.Event.{Event}
use Rattle.events.specs.declared.event.Event.TheVariants.{Call as call_event, Return as return_event}
use Rattle.events.specs.declared.event.Event.TheVariants.{Crash as crash_event, Ready as ready_event}
use Rattle.events.specs.declared.event.Entry.{Entry}
use Rattle.events.specs.History.{IsDurable, IsUnnumbered, MayStand}
use Rattle.findings.specs.Filling.{HasFewClients, IsRecorded, IsRecordedOfAny, SomeFillingIsExplained}
use Rattle.findings.specs.Findings.{ExplainsFindings}
use Rattle.findings.proofs.Filled.{filling_from_findings}

may_stand : (events : List Event) (learnt : List (Option Outcome)) → IsRecordedOfAny events learnt
    → HasFewClients events → (p : ℕ) (event : Event) → slice_get events p ≡ Some event → MayStand events p event
may_stand events learnt recorded few p (call_event client number call) at =
    (few.each p number client call at, recorded.places p _ at)
may_stand events learnt recorded few p (return_event client reply) at = recorded.places p _ at
may_stand events learnt recorded few p crash_event at = tt
may_stand events learnt recorded few p (ready_event told) at = tt

-- numbers by places are not 0
not_durable : (events : List Event) (learnt : List (Option Outcome)) → IsRecordedOfAny events learnt
    → IsDurable events → ⊥
not_durable events learnt recorded (p, event, lt, is, unnumbered) =
    go event (slice_get-get_or events p event lt ∙ ap Some is) unnumbered
  where
    go : (event : Event) → slice_get events p ≡ Some event → IsUnnumbered event → ⊥
    go (call_event client number call) at zero = absurd (omega (arith, zero, recorded.numbers p number client call at))
    go (return_event client reply) at none = none
    go crash_event at none = none
    go (ready_event told) at none = none

pub recorded_of_few : (events : List Event) (learnt : List (Option Outcome)) → IsRecordedOfAny events learnt
    → HasFewClients events → IsRecorded events learnt
recorded_of_few events learnt recorded few = record {
  arises = record {
    places = may_stand events learnt recorded few;
    numbers = λ durable. absurd (not_durable events learnt recorded durable);
  };
  numbers = recorded.numbers;
  interrupted = recorded.interrupted;
}

-- so some filling is explained by what explains the findings
pub filled_of_few : (events : List Event) (learnt : List (Option Outcome)) (order : List Entry)
    → IsRecordedOfAny events learnt → HasFewClients events → ExplainsFindings events learnt order
    → SomeFillingIsExplained events learnt order
filled_of_few events learnt order recorded few explains =
    filling_from_findings events learnt order (recorded_of_few events learnt recorded few) explains
