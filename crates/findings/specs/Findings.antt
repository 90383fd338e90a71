-- What is known of a queue's calls, and the orders that agree with it.
use Rattle.std.specs.Prelude.{ℕ, EachIndex, ◌≡◌, ◌≤◌, ◌⊎◌, List, [], Option, Some, slice_get}
use Rattle.words.specs.PlainQueue.{Value}
use Rattle.words.specs.declared.call.Call.TheVariants.{Enq, Deq}
use Rattle.words.specs.declared.call.Client.{Client}
use Rattle.words.specs.declared.call.Reply.{Reply}
use Rattle.words.specs.declared.call.Reply.TheVariants.{Got}
use Rattle.words.specs.declared.told.Outcome.{Outcome}
use Rattle.words.specs.declared.told.Outcome.TheVariants.{Taken}
use Rattle.events.specs.declared.event.Event.{Event}
use Rattle.events.specs.declared.event.Entry.{Entry}
use Rattle.events.specs.Explains.{IsAnswered, KeepsPrecedence}
use Rattle.events.specs.History.{BeginsAt, IsEnd, ReturnAt}
use Rattle.events.specs.Orders.{IsOrder}
use Rattle.events.specs.Replay.{Replays, call_at}
use Rattle.events.specs.Telling.{IsOutcome}

-- somebody learnt what became of the call at p
abbrev pub IsLearnt : List (Option Outcome) → ℕ → Outcome → Type 0
IsLearnt learnt p outcome = slice_get learnt p ≡ Some (Some outcome)

-- the call at p ended by a Return with this reply
pub record IsReturned (events : List Event) (p : ℕ) (reply : Reply) : Type 0 where
  pub client : Client
  pub begins : BeginsAt events client p
  pub end : ℕ
  pub ends : IsEnd events client p end
  pub returns : ReturnAt events end client reply

-- the call at p is known to have taken effect with this reply: it returned it, or somebody learnt so
abbrev pub IsKnown : List Event → List (Option Outcome) → ℕ → Reply → Type 0
IsKnown events learnt p reply = IsReturned events p reply ⊎ IsLearnt learnt p (Taken reply)

-- what was learnt of calls is so in the order
pub record Agrees (learnt : List (Option Outcome)) (order : List Entry) : Type 0 where
  pub each : (p : ℕ) (outcome : Outcome) → IsLearnt learnt p outcome → IsOutcome order p outcome

-- the order explains what is known of the calls on a queue that is empty at first: it has the parts of `Explains` that
-- do not speak of Readys, and agrees with what was learnt
pub record ExplainsFindings (events : List Event) (learnt : List (Option Outcome)) (order : List Entry) : Type 0 where
  pub is_order : IsOrder events order
  pub answers : EachIndex events (λ p. IsAnswered events order p)
  pub replays : Replays events [] order
  pub precedence : KeepsPrecedence events order
  pub agrees : Agrees learnt order

-- no order does
pub record HasNoOrder (events : List Event) (learnt : List (Option Outcome)) : Type 0 where
  pub none : (order : List Entry) → ExplainsFindings events learnt order → ⊥

-- the call at p puts this value
abbrev pub PutsAt : List Event → ℕ → Value → Type 0
PutsAt events p value = call_at events p ≡ Some (Enq value)

-- the call at p takes
abbrev pub TakesAt : List Event → ℕ → Type 0
TakesAt events p = call_at events p ≡ Some Deq

-- no two calls put the same value
pub record HasDistinctValues (events : List Event) : Type 0 where
  pub each : (p q : ℕ) (value : Value) → PutsAt events p value → PutsAt events q value → p ≡ q

-- the call at p is known to have got this value
abbrev pub IsKnownGot : List Event → List (Option Outcome) → ℕ → Value → Type 0
IsKnownGot events learnt p value = IsKnown events learnt p (Got value)

-- the call at p ends at some place up to e
pub record IsOverBy (events : List Event) (p e : ℕ) : Type 0 where
  pub client : Client
  pub begins : BeginsAt events client p
  pub end : ℕ
  pub ends : IsEnd events client p end
  pub by : end ≤ e
