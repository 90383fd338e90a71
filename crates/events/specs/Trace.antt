-- A trace: events, and effects of calls on a queue, as a world keeps them beside its memory.
use Rattle.std.specs.Prelude.{ℕ, EachIndex, ◌≡◌, ◌≢◌, ◌<◌, ◌≤◌, List, Some, slice_get, length, map, All, AllPairs}
use Rattle.std.specs.Prelude.{false}
use Rattle.words.specs.PlainQueue.{Value}
use Rattle.words.specs.declared.call.Call.{Call}
use Rattle.words.specs.declared.call.Client.{Client}
use Rattle.words.specs.declared.call.Kind.{Kind}
use Rattle.words.specs.declared.call.Kind.TheVariants.{Durable, Log}
use Rattle.words.specs.declared.call.Reply.TheVariants.{Empty}
use Rattle.words.specs.declared.limits.TheConstants.{MAX_CALL_NUMBER, MAX_CLIENTS}
use Rattle.words.specs.declared.told.Told.{Told}
use Rattle.events.specs.declared.event.Event.{Event}
use Rattle.events.specs.declared.event.Effect.{Effect}
use Rattle.events.specs.declared.event.Entry.{Entry}
use Rattle.events.specs.Effects.{entry_of, order_of}
use Rattle.events.specs.Explains.{IsAnswered}
use Rattle.events.specs.History.{CallAt, ReadyAt, BeginsAt, HasNoEnd, IsOpenFrom, MayStand}
use Rattle.events.specs.Replay.{Replays, queue_after}
use Rattle.events.specs.Telling.{TellsAt}

-- calls of a durable queue have the number 0, those of a log queue numbers from 1 to 2^40
abbrev pub IsNumberOf : Kind → ℕ → Type 0
IsNumberOf Durable number = number ≡ 0
IsNumberOf Log number = (0 < number) × (number ≤ MAX_CALL_NUMBER)

-- the entries of all effects, the pending ones too
abbrev pub entries_of : List Effect → List Entry
entries_of effects = map entry_of effects

-- what the queue holds after all effects
abbrev pub queue_of : List Event → List Value → List Effect → List Value
queue_of events base effects = queue_after events base (entries_of effects)

-- the client's call at the place took effect at a moment between its Call and its end
pub record IsWithinCall (events : List Event) (effect : Effect) (client : Client) : Type 0 where
  pub begins : BeginsAt events client effect.place
  pub no_end : HasNoEnd events client effect.place effect.moment

-- an effect of some client's call, at a moment that has been
pub record IsEffect (events : List Event) (effect : Effect) : Type 0 where
  pub client : Client
  pub within : IsWithinCall events effect client
  pub after : effect.place < effect.moment
  pub before : effect.moment ≤ length events

-- a pending effect, one that is not settled, is an Empty of a call that has no end yet
pub record IsPending (events : List Event) (effect : Effect) : Type 0 where
  pub empty : effect.reply ≡ Empty
  pub client : Client
  pub open_from : IsOpenFrom events client (length events) effect.place

-- no call of the client that has no end yet began before the Ready at q
pub record IsFreshAfter (events : List Event) (q : ℕ) : Type 0 where
  pub fresh : (tells : List Told) (client : Client) (p : ℕ) → ReadyAt events q tells → p < q
      → IsOpenFrom events client (length events) p → ⊥

-- what a world's events and effects always are
pub record IsTrace (kind : Kind) (base : List Value) (told : List Told) (events : List Event)
    (effects : List Effect) : Type 0 where
  -- each event may stand where it stands, and Calls have numbers of the kind
  pub places : (p : ℕ) (event : Event) → slice_get events p ≡ Some event → MayStand events p event
  pub numbers : (p number : ℕ) (client : Client) (call : Call) → CallAt events p client number call
      → IsNumberOf kind number
  -- each effect is within its call, no call has two, and they stand in the sequence of their moments
  pub within : All (λ effect. IsEffect events effect) effects
  pub once : AllPairs (λ x y. x.place ≢ y.place) effects
  pub ascending : AllPairs (λ x y. x.moment ≤ y.moment) effects
  -- those that are not settled are pending
  pub pending : All (λ effect. effect.settled ≡ false → IsPending events effect) effects
  -- the plain queue gives their replies, and each complete call has a settled one with its reply
  pub replays : Replays events base (entries_of effects)
  pub answers : EachIndex events (λ p. IsAnswered events (order_of effects) p)
  -- at each Ready sixteen clients were told rightly, and every call that has no end yet began after it
  pub sixteen : (q : ℕ) (tells : List Told) → ReadyAt events q tells → length tells ≡ MAX_CLIENTS
  pub tells : EachIndex events (λ q. TellsAt kind told events (order_of effects) q)
  pub fresh : EachIndex events (λ q. IsFreshAfter events q)
