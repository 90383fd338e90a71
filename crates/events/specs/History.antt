-- What stands at the places of a history, where a call ends, which call precedes which, and which histories may arise.
use Rattle.std.specs.Prelude.{ℕ, ◌≡◌, ◌<◌, ◌⊎◌, ⊤, List, Some, slice_get, All, Any}
use Rattle.words.specs.declared.call.Call.{Call}
use Rattle.words.specs.declared.call.Client.{Client}
use Rattle.words.specs.declared.call.Reply.{Reply}
use Rattle.words.specs.declared.limits.TheConstants.{MAX_CLIENTS}
use Rattle.words.specs.declared.told.Told.{Told}
use Rattle.events.specs.declared.event.Event.{Event}
use Rattle.events.specs.declared.event.Event.TheVariants.{Call as call_event, Return as return_event}
use Rattle.events.specs.declared.event.Event.TheVariants.{Crash as crash_event, Ready as ready_event}

-- this Call stands at the place
abbrev pub CallAt : List Event → ℕ → Client → ℕ → Call → Type 0
CallAt events p client number call = slice_get events p ≡ Some (call_event client number call)

-- this Return does
abbrev pub ReturnAt : List Event → ℕ → Client → Reply → Type 0
ReturnAt events p client reply = slice_get events p ≡ Some (return_event client reply)

-- a Crash does
abbrev pub CrashAt : List Event → ℕ → Type 0
CrashAt events p = slice_get events p ≡ Some crash_event

-- a Ready does, which tells this
abbrev pub ReadyAt : List Event → ℕ → List Told → Type 0
ReadyAt events p told = slice_get events p ≡ Some (ready_event told)

-- a call of the client begins at p
abbrev pub BeginsAt : List Event → Client → ℕ → Type 0
BeginsAt events client p = (number : ℕ) × ((call : Call) × CallAt events p client number call)

-- what stands at p ends a call of the client: its Return, or a Crash
abbrev pub EndsAt : List Event → Client → ℕ → Type 0
EndsAt events client p = ((reply : Reply) × ReturnAt events p client reply) ⊎ CrashAt events p

-- the client's call at p has no end before q
abbrev pub HasNoEnd : List Event → Client → ℕ → ℕ → Type 0
HasNoEnd events client p q = (k : ℕ) → p < k → k < q → EndsAt events client k → ⊥

-- e is the end of the client's call at p: the first that ends it
pub record IsEnd (events : List Event) (client : Client) (p e : ℕ) : Type 0 where
  pub after : p < e
  pub ends : EndsAt events client e
  pub first : HasNoEnd events client p e

-- the end of the call at a stands before b
pub record Precedes (events : List Event) (a b : ℕ) : Type 0 where
  pub client : Client
  pub begins : BeginsAt events client a
  pub end : ℕ
  pub ends : IsEnd events client a end
  pub before : end < b

-- the client has a call that begins at q and has no end before p
pub record IsOpenFrom (events : List Event) (client : Client) (p q : ℕ) : Type 0 where
  pub begins : BeginsAt events client q
  pub no_end : HasNoEnd events client q p

-- the client has a call that begins before p and has no end before p
pub record IsUnderWay (events : List Event) (client : Client) (p : ℕ) : Type 0 where
  pub place : ℕ
  pub before : place < p
  pub open_from : IsOpenFrom events client p place

-- p lies between a Crash and the next Ready
pub record IsDown (events : List Event) (p : ℕ) : Type 0 where
  pub place : ℕ
  pub before : place < p
  pub crash : CrashAt events place
  pub no_ready : (k : ℕ) (told : List Told) → place < k → k < p → ReadyAt events k told → ⊥

-- what may stand at p
abbrev pub MayStand : List Event → ℕ → Event → Type 0
-- a Call, of a client from 0 to 15 that has no call without an end
MayStand events p (call_event client number call) =
    (client.0 < MAX_CLIENTS) × (¬ (IsUnderWay events client p) × ¬ (IsDown events p))
-- a Return, of a client that has one
MayStand events p (return_event client reply) = IsUnderWay events client p × ¬ (IsDown events p)
MayStand events p crash_event = ⊤
MayStand events p (ready_event told) = ⊤

-- a Call with a number, which is not 0
abbrev pub IsNumbered : Event → Type 0
IsNumbered (call_event client number call) = 0 < number
IsNumbered (return_event client reply) = ⊥
IsNumbered crash_event = ⊥
IsNumbered (ready_event told) = ⊥

-- a Call without one
abbrev pub IsUnnumbered : Event → Type 0
IsUnnumbered (call_event client number call) = number ≡ 0
IsUnnumbered (return_event client reply) = ⊥
IsUnnumbered crash_event = ⊥
IsUnnumbered (ready_event told) = ⊥

-- some Call has the number 0: the clients are those of a durable queue, else those of a log queue
abbrev pub IsDurable : List Event → Type 0
IsDurable events = Any IsUnnumbered events

-- the events of a history that may arise: each may stand where it stands, and numbers are 0 in every Call or in none
pub record IsHistory (events : List Event) : Type 0 where
  pub places : (p : ℕ) (event : Event) → slice_get events p ≡ Some event → MayStand events p event
  pub numbers : IsDurable events → All (λ event. ¬ (IsNumbered event)) events
