-- Histories whose Readys tell what somebody learnt.
use Rattle.std.specs.Prelude.{ℕ, ◌≡◌, ◌<◌, ◌+◌, ⊤, List, [], Option, Some, slice_get, length, replicate}
use Rattle.words.specs.declared.call.Call.{Call}
use Rattle.words.specs.declared.call.Client.{Client}
use Rattle.words.specs.declared.call.Reply.{Reply}
use Rattle.words.specs.declared.limits.TheConstants.{MAX_CLIENTS}
use Rattle.words.specs.declared.told.Outcome.{Outcome}
use Rattle.words.specs.declared.told.Told.{Told}
use Rattle.words.specs.declared.told.Told.TheVariants.{None as told_none, Verdict as told_verdict}
use Rattle.events.specs.declared.event.Event.{Event}
use Rattle.events.specs.declared.event.Event.TheVariants.{Call as call_event, Return as return_event}
use Rattle.events.specs.declared.event.Event.TheVariants.{Crash as crash_event, Ready as ready_event}
use Rattle.events.specs.declared.event.Entry.{Entry}
use Rattle.events.specs.Explains.{Explains}
use Rattle.events.specs.History.{CallAt, ReturnAt, CrashAt, ReadyAt, IsDown, IsEnd, IsHistory}
use Rattle.events.specs.History.{IsUnderWay}
use Rattle.events.specs.Telling.{IsNextReady}
use Rattle.findings.specs.Findings.{IsLearnt}

-- a crash interrupted the call at p, and a Ready came after it
pub record IsInterrupted (events : List Event) (p : ℕ) : Type 0 where
  pub client : Client
  pub number : ℕ
  pub call : Call
  pub begins : CallAt events p client number call
  pub end : ℕ
  pub ends : IsEnd events client p end
  pub crash : CrashAt events end
  pub ready : ℕ
  pub tells : List Told
  pub next : IsNextReady events end ready tells

-- what may stand at p, as in a history that may arise (`MayStand`), but with any number of clients
abbrev pub MayStandAmongAny : List Event → ℕ → Event → Type 0
MayStandAmongAny events p (call_event client number call) = ¬ (IsUnderWay events client p) × ¬ (IsDown events p)
MayStandAmongAny events p (return_event client reply) = IsUnderWay events client p × ¬ (IsDown events p)
MayStandAmongAny events p crash_event = ⊤
MayStandAmongAny events p (ready_event told) = ⊤

-- what a recorder knows of any number of clients: each event may stand where it stands, calls have numbers by their
-- places, and something was learnt of calls that crashes interrupted alone
pub record IsRecordedOfAny (events : List Event) (learnt : List (Option Outcome)) : Type 0 where
  pub places : (p : ℕ) (event : Event) → slice_get events p ≡ Some event → MayStandAmongAny events p event
  pub numbers : (p number : ℕ) (client : Client) (call : Call) → CallAt events p client number call → number ≡ p + 1
  pub interrupted : (p : ℕ) (outcome : Outcome) → IsLearnt learnt p outcome → IsInterrupted events p

-- the clients are those of one queue of this repository: 0 to 15
pub record HasFewClients (events : List Event) : Type 0 where
  pub each : (p number : ℕ) (client : Client) (call : Call) → CallAt events p client number call
      → client.0 < MAX_CLIENTS

-- what a recorder knows: a history that may arise, whose calls have numbers by their places, so none twice, and what
-- was learnt of calls that crashes interrupted
pub record IsRecorded (events : List Event) (learnt : List (Option Outcome)) : Type 0 where
  pub arises : IsHistory events
  pub numbers : (p number : ℕ) (client : Client) (call : Call) → CallAt events p client number call → number ≡ p + 1
  pub interrupted : (p : ℕ) (outcome : Outcome) → IsLearnt learnt p outcome → IsInterrupted events p

-- what stands in the one history stands in the other, but a Ready may tell something else
pub record HasEventsOf (events other : List Event) : Type 0 where
  pub calls : (p number : ℕ) (client : Client) (call : Call) → CallAt events p client number call
      → CallAt other p client number call
  pub returns : (p : ℕ) (client : Client) (reply : Reply) → ReturnAt events p client reply
      → ReturnAt other p client reply
  pub crashes : (p : ℕ) → CrashAt events p → CrashAt other p
  pub readys : (p : ℕ) (tells : List Told) → ReadyAt events p tells → (told : List Told) × ReadyAt other p told

-- the next Ready after an interrupted call tells its client this of it
pub record TellsOutcome (filled : List Event) (p : ℕ) (outcome : Outcome) : Type 0 where
  pub tells : (client : Client) (number end ready : ℕ) (call : Call) (told : List Told)
      → CallAt filled p client number call → IsEnd filled client p end → CrashAt filled end
      → IsNextReady filled end ready told
      → slice_get told client.0 ≡ Some (told_verdict (record { number = number; outcome = outcome }))

-- the same events, but each Ready tells sixteen clients something, and what was learnt is told by the next Ready
pub record IsFilling (events : List Event) (learnt : List (Option Outcome)) (filled : List Event) : Type 0 where
  pub there : HasEventsOf events filled
  pub back : HasEventsOf filled events
  pub sixteen : (q : ℕ) (told : List Told) → ReadyAt filled q told → length told ≡ MAX_CLIENTS
  pub tells : (p : ℕ) (outcome : Outcome) → IsLearnt learnt p outcome → TellsOutcome filled p outcome

-- nobody was told anything before
abbrev pub told_nothing : List Told
told_nothing = replicate MAX_CLIENTS told_none

-- some filling is a history that may arise, and the order explains it
pub record SomeFillingIsExplained (events : List Event) (learnt : List (Option Outcome)) (order : List Entry)
    : Type 0 where
  pub filled : List Event
  pub fills : IsFilling events learnt filled
  pub arises : IsHistory filled
  pub explains : Explains [] told_nothing filled order
