-- Events as they are kept, when what Readys tell grows.
use Rattle.std.proofs.Common.{suc, ◌≡◌, ◌∙◌, List, [], ◌∷◌, ◌++◌, refl, ap, arith}
use Rattle.std.specs.Prelude.{All}
use Rattle.std.proofs.lemmas.List.{get_or_append_left}
use Rattle.words.specs.declared.told.Told.{Told}
use Rattle.events.specs.declared.event.Event.{Event}
use Rattle.events.specs.declared.event.Event.TheVariants.{Ready as ready_event}
use Rattle.events.specs.declared.kept.Kept.{Kept}
use Rattle.events.specs.declared.kept.Kept.TheVariants.{Call as kept_call, Return as kept_return}
use Rattle.events.specs.declared.kept.Kept.TheVariants.{Crash as kept_crash, Ready as kept_ready}
use Rattle.events.specs.Kept.{event_of, events_of, IsToldIn}

-- an event stays the same
pub event_same : (tellings more : List (List Told)) (k : Kept) → IsToldIn tellings k
    → event_of (tellings ++ more) k ≡ event_of tellings k
event_same tellings more (kept_call client number call) told = refl
event_same tellings more (kept_return client reply) told = refl
event_same tellings more kept_crash told = refl
event_same tellings more (kept_ready telling) told =
    ap (λ (t : List Told). ready_event t) (get_or_append_left tellings more [] telling told)

-- so events do, and another one comes behind them
pub events_pushed : (tellings more : List (List Told)) (kept : List Kept) (k : Kept) (event : Event)
    → All (λ k. IsToldIn tellings k) kept → event_of (tellings ++ more) k ≡ event
    → events_of (tellings ++ more) (kept ++ k ∷ []) ≡ events_of tellings kept ++ event ∷ []
events_pushed tellings more [] k event told is = ap (λ (e : Event). e ∷ []) is
events_pushed tellings more (x ∷ kept) k event told is =
    ap (λ (e : Event). e ∷ events_of (tellings ++ more) (kept ++ k ∷ []))
    (event_same tellings more x (told 0 k (omega arith)))
    ∙ ap (λ (es : List Event). event_of tellings x ∷ es)
    (events_pushed tellings more kept k event (λ i d lt. told (suc i) d (omega arith)) is)
