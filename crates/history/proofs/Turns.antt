-- A history may arise where each event stands up, and each client's events stand in turn.
use Rattle.std.proofs.Common.{ℕ, ◌≡◌, ◌<◌, List, Some, slice_get, get_or, refl, subst}
use Rattle.std.specs.Prelude.{All}
use Rattle.std.proofs.lemmas.Option.{slice_get_within, slice_get-get_or, get_or_from_slice_get}
use Rattle.words.specs.declared.call.Client.{Client}
use Rattle.events.specs.declared.event.Event.{Event}
use Rattle.events.specs.declared.event.Event.TheVariants.{Call as call_event, Return as return_event}
use Rattle.events.specs.declared.event.Event.TheVariants.{Crash as crash_event, Ready as ready_event}
use Rattle.events.specs.History.{IsUnderWay, MayStand}
use Rattle.history.specs.Sweeps.{HasClient, StandsUp, StandsInTurn, IsInTurn}

-- each event may stand where it stands
abbrev pub EachMayStand : List Event → Type 0
EachMayStand events = (p : ℕ) (event : Event) → slice_get events p ≡ Some event → MayStand events p event

all_at : {X : Type 0} (P : X → Type 0) (xs : List X) (p : ℕ) (x : X) → All P xs → slice_get xs p ≡ Some x → P x
all_at P xs p x all at = subst P (get_or_from_slice_get xs p x x at) (all p x (slice_get_within xs p x at))

pub may_from_turns : (events : List Event) → All (λ event. HasClient event) events
    → ((p : ℕ) (event : Event) → slice_get events p ≡ Some event → StandsUp events p event)
    → ((client : Client) → client.0 < 16 → IsInTurn events client) → EachMayStand events
may_from_turns events has up turn p (call_event client number call) at =
    let small : client.0 < 16 = all_at HasClient events p _ has at in
    (small, ((turn client small).each p _ at refl, up p _ at))
may_from_turns events has up turn p (return_event client reply) at =
    let small : client.0 < 16 = all_at HasClient events p _ has at in
    ((turn client small).each p _ at refl, up p _ at)
may_from_turns events has up turn p crash_event at = tt
may_from_turns events has up turn p (ready_event told) at = tt

-- and the other way round
pub clients_from_may : (events : List Event) → EachMayStand events → All (λ event. HasClient event) events
clients_from_may events may p d lt = go (get_or events p d) (may p _ (slice_get-get_or events p d lt))
  where
    go : (event : Event) → MayStand events p event → HasClient event
    go (call_event client number call) is = is.0
    go (return_event client reply) is = (may is.0.place _ is.0.open_from.begins.1.1).0
    go crash_event is = tt
    go (ready_event told) is = tt

pub up_from_may : (events : List Event) → EachMayStand events → (p : ℕ) (event : Event)
    → slice_get events p ≡ Some event → StandsUp events p event
up_from_may events may p (call_event client number call) at = (may p _ at).1.1
up_from_may events may p (return_event client reply) at = (may p _ at).1
up_from_may events may p crash_event at = tt
up_from_may events may p (ready_event told) at = tt

pub turn_from_may : (events : List Event) → EachMayStand events → (client : Client) → IsInTurn events client
turn_from_may events may client = record { each = each }
  where
    each : (p : ℕ) (event : Event) → slice_get events p ≡ Some event → StandsInTurn events client p event
    each p (call_event other number call) at = λ same. subst (λ (c : Client). IsUnderWay events c p → ⊥) same
        (may p _ at).1.0
    each p (return_event other reply) at = λ same. subst (λ (c : Client). IsUnderWay events c p) same (may p _ at).0
    each p crash_event at = tt
    each p (ready_event told) at = tt
