-- What an act of a session carries on for the clients that it is not of, and what it does for the one that it is of.
use Rattle.std.specs.Prelude.{◌≡◌, ◌≢◌, ◌⊎◌, ◌++◌, ℕ, Bool, IsTrue, true, false, length, List, [], ◌∷◌, Some, slice_get}
use Rattle.words.specs.declared.call.Client.{Client}
use Rattle.words.specs.declared.call.Reply.{Reply}
use Rattle.events.specs.History.{IsUnderWay}
use Rattle.events.specs.declared.event.Event.{Event}
use Rattle.events.specs.declared.event.Event.TheVariants.{Call as call_event, Return as return_event}
use Rattle.events.specs.declared.event.Event.TheVariants.{Crash as crash_event, Ready as ready_event}
use Rattle.named.specs.Brokers.{is_down}
use Rattle.session.specs.Promises.{IsReplyAt}
use Rattle.session.specs.Sessions.{Sessioned}
use Rattle.workers.specs.Lists.{events_at}

-- the event is no call and no return of the client, and a crash only where one may come
abbrev pub IsNotOf : Bool → Client → Event → Type 0
IsNotOf crashes client (call_event other number call) = other ≢ client
IsNotOf crashes client (return_event other reply) = other ≢ client
IsNotOf crashes client crash_event = IsTrue crashes
IsNotOf crashes client (ready_event told) = Unit {0}

-- the history went on, by such events alone
pub record IsStillFor (crashes : Bool) (client : Client) (old new : List Event) : Type 0 where
  pub rest : List Event
  pub is : new ≡ old ++ rest
  pub none : (k : ℕ) (x : Event) → slice_get rest k ≡ Some x → IsNotOf crashes client x

-- the reply of a number stays its reply
abbrev pub RepliesStay : Sessioned → Sessioned → Type 0
RepliesStay old new =
    (slot number : ℕ) (client : Client) (reply : Reply) → IsReplyAt old slot client number reply
    → IsReplyAt new slot client number reply

-- nothing had happened, or a crash came
abbrev pub IsCrashed : List Event → List Event → Type 0
IsCrashed old new = (old ≡ []) ⊎ (new ≡ old ++ crash_event ∷ [])

-- where the broker is down now it was so before, or a crash came where one may
abbrev pub IsDownRightly : Bool → Sessioned → Sessioned → Type 0
IsDownRightly crashes old new =
    is_down new.broker ≡ true
    → (is_down old.broker ≡ true)
    ⊎ (IsTrue crashes × ((slot : ℕ) → IsCrashed (events_at old.broker slot) (events_at new.broker slot)))

-- the act was not of the client, and a crash only where one may come
pub record IsCarriedFor (crashes : Bool) (client : Client) (old new : Sessioned) : Type 0 where
  pub events : (slot : ℕ) → IsStillFor crashes client (events_at old.broker slot) (events_at new.broker slot)
  pub replies : RepliesStay old new
  pub down : IsDownRightly crashes old new

-- one event came to the history of a slot, and none to the others; the broker is ready
pub record HasNext (old new : Sessioned) (slot : ℕ) (event : Event) : Type 0 where
  pub here : events_at new.broker slot ≡ events_at old.broker slot ++ event ∷ []
  pub others : (other : ℕ) → other ≢ slot → events_at new.broker other ≡ events_at old.broker other
  pub replies : RepliesStay old new
  pub up : is_down new.broker ≡ false

-- the client has a call under way at the end of the history
abbrev pub CallsNow : List Event → Client → Type 0
CallsNow events client = IsUnderWay events client (length events)

-- the broker is down, or the client has no call under way in the queue of the slot
abbrev pub IsLost : Sessioned → ℕ → Client → Type 0
IsLost s slot client = (is_down s.broker ≡ true) ⊎ (CallsNow (events_at s.broker slot) client → ⊥)
