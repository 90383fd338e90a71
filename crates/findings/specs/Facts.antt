-- Facts as they are kept: events whose clients are any numbers, and whose values go by theirs.
use Rattle.std.specs.Prelude.{ℕ, ◌≡◌, ◌<◌, ◌≤◌, ◌+◌, List, [], ◌∷◌, Option, Some, slice_get, length}
use Rattle.words.specs.declared.call.Call.{Call}
use Rattle.words.specs.declared.call.Call.TheVariants.{Enq, Deq}
use Rattle.words.specs.declared.call.Client.{Client}
use Rattle.words.specs.declared.call.Reply.{Reply}
use Rattle.words.specs.declared.call.Reply.TheVariants.{Done, Got, Empty}
use Rattle.words.specs.declared.told.Outcome.{Outcome}
use Rattle.events.specs.declared.event.Event.{Event}
use Rattle.events.specs.declared.event.Event.TheVariants.{Call as call_event, Return as return_event}
use Rattle.events.specs.declared.event.Event.TheVariants.{Crash as crash_event, Ready as ready_event}
use Rattle.events.specs.History.{BeginsAt, IsEnd}
use Rattle.findings.specs.Filling.{told_nothing}
use Rattle.findings.specs.Ranks.{ranked}
use Rattle.findings.specs.declared.fact.RankedCall.{RankedCall}
use Rattle.findings.specs.declared.fact.RankedCall.TheVariants.{Put, Take}
use Rattle.findings.specs.declared.fact.RankedReply.{RankedReply}
use Rattle.findings.specs.declared.fact.RankedReply.TheVariants.{Done as ranked_done, Got as ranked_got}
use Rattle.findings.specs.declared.fact.RankedReply.TheVariants.{Empty as ranked_empty}
use Rattle.findings.specs.declared.fact.Fact.{Fact}
use Rattle.findings.specs.declared.fact.Fact.TheVariants.{Call as call_fact, Return as return_fact}
use Rattle.findings.specs.declared.fact.Fact.TheVariants.{Crash as crash_fact, Ready as ready_fact}

-- what is known of some calls: events, and for each what was learnt of the call that it begins
pub record Known : Type 0 where
  pub events : List Event
  pub learnt : List (Option Outcome)

-- the call, and the reply, with the message that stands for its value
abbrev pub call_of : RankedCall → Call
call_of (Put rank) = Enq (ranked rank)
call_of Take = Deq

abbrev pub reply_of : RankedReply → Reply
reply_of ranked_done = Done
reply_of (ranked_got rank) = Got (ranked rank)
reply_of ranked_empty = Empty

-- the event that a fact is at this place: a call has its number by the place, and a Ready tells nothing
abbrev pub event_at : ℕ → Fact → Event
event_at place (call_fact client call) = call_event (record { 0 = client }) (place + 1) (call_of call)
event_at place (return_fact client reply) = return_event (record { 0 = client }) (reply_of reply)
event_at place crash_fact = crash_event
event_at place ready_fact = ready_event told_nothing

-- the events that facts are one after another, of which the first stands at this place
abbrev pub events_from : ℕ → List Fact → List Event
events_from place [] = []
events_from place (fact ∷ facts) = event_at place fact ∷ events_from (place + 1) facts

-- the call at p ended at e
pub record HasEnd (events : List Event) (p e : ℕ) : Type 0 where
  pub client : Client
  pub begins : BeginsAt events client p
  pub ends : IsEnd events client p e

-- no call at p ended
pub record HasNone (events : List Event) (p : ℕ) : Type 0 where
  pub none : (e : ℕ) → HasEnd events p e → ⊥

-- the call at p ended at e, or e lies past all events, and no call at p ended
pub record IsEndOf (events : List Event) (p e : ℕ) : Type 0 where
  pub some : e < length events → HasEnd events p e
  pub none : length events ≤ e → HasNone events p

-- the list has so for each place
pub record AreEnds (events : List Event) (ends : List ℕ) : Type 0 where
  pub count : length ends ≡ length events
  pub each : (p e : ℕ) → slice_get ends p ≡ Some e → IsEndOf events p e
