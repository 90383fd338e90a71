-- What a pass over facts, from the last to the first, carries along.
use Rattle.std.specs.Prelude.{ℕ, ◌≡◌, ◌<◌, ◌≤◌, ⊤, All, List, Some, slice_get, get_or, length, min}
use Rattle.words.specs.declared.call.Client.{Client}
use Rattle.events.specs.declared.event.Event.{Event}
use Rattle.events.specs.declared.event.Event.TheVariants.{Call as call_event, Return as return_event}
use Rattle.events.specs.declared.event.Event.TheVariants.{Crash as crash_event, Ready as ready_event}
use Rattle.events.specs.History.{EndsAt}
use Rattle.findings.specs.Facts.{IsEndOf}

-- the client of a Call or a Return is below this number
abbrev pub IsBelow : ℕ → Event → Type 0
IsBelow count (call_event client number call) = client.0 < count
IsBelow count (return_event client reply) = client.0 < count
IsBelow count crash_event = ⊤
IsBelow count (ready_event told) = ⊤

-- that of each is
abbrev pub AreBelow : ℕ → List Event → Type 0
AreBelow count events = All (λ event. IsBelow count event) events

-- t is the first place from p on at which something ends a call of the client, or none does
pub record IsNextEnd (events : List Event) (client : Client) (p t : ℕ) : Type 0 where
  pub from : p ≤ t
  pub first : (k : ℕ) → p ≤ k → k < t → EndsAt events client k → ⊥
  pub ends : t < length events → EndsAt events client t
  pub within : t ≤ length events

-- so it is of each client, by the next Return of each and the next Crash
pub record AreNextEnds (events : List Event) (p : ℕ) (returns : List ℕ) (crash : ℕ) : Type 0 where
  pub each : (client : Client) (d : ℕ) → client.0 < length returns
      → IsNextEnd events client p (min (get_or returns client.0 d) crash)

-- from p on the list has where each call ended
pub record AreEndsFrom (events : List Event) (p : ℕ) (ends : List ℕ) : Type 0 where
  pub count : length ends ≡ length events
  pub each : (q e : ℕ) → p ≤ q → slice_get ends q ≡ Some e → IsEndOf events q e
