-- The four patterns in a recording, by the places of its calls, and what a recording of a queue is.
use Rattle.std.specs.Prelude.{ℕ, ◌≡◌, ◌≢◌, ◌<◌, ◌≤◌, ◌+◌, ◌⊎◌, List, Option, Some, Contains, length}
use Rattle.words.specs.PlainQueue.{Value}
use Rattle.words.specs.declared.call.Call.{Call}
use Rattle.words.specs.declared.call.Call.TheVariants.{Enq, Deq}
use Rattle.words.specs.declared.call.Reply.{Reply}
use Rattle.words.specs.declared.call.Reply.TheVariants.{Done, Empty}
use Rattle.words.specs.declared.told.Outcome.{Outcome}
use Rattle.events.specs.declared.event.Event.{Event}
use Rattle.events.specs.declared.event.Entry.{Entry}
use Rattle.events.specs.History.{Precedes}
use Rattle.events.specs.Replay.{call_at}
use Rattle.findings.specs.declared.witness.Since.{Since}
use Rattle.findings.specs.Findings.{IsKnown, IsKnownGot, IsOverBy, PutsAt, TakesAt, HasDistinctValues, ExplainsFindings}
use Rattle.findings.specs.Filling.{IsRecordedOfAny}
use Rattle.findings.specs.Shows.{ShowsInvented, ShowsTwice, IsLate, IsFew}

-- a recording of a queue: values are put once, a put is answered Done, and a take never is
pub record IsOfQueue (events : List Event) (learnt : List (Option Outcome)) : Type 0 where
  pub recorded : IsRecordedOfAny events learnt
  pub distinct : HasDistinctValues events
  pub puts : (p : ℕ) (value : Value) (reply : Reply) → PutsAt events p value → IsKnown events learnt p reply
      → reply ≡ Done
  pub takes : (p : ℕ) (reply : Reply) → TakesAt events p → IsKnown events learnt p reply → reply ≢ Done

-- the reply is one to the call
abbrev pub Fits : Call → Reply → Type 0
Fits (Enq value) reply = reply ≡ Done
Fits Deq reply = reply ≢ Done

-- each reply that is known of the call at p is one to it
pub record HasFittingReply (events : List Event) (learnt : List (Option Outcome)) (p : ℕ) : Type 0 where
  pub fits : (call : Call) (reply : Reply) → call_at events p ≡ Some call → IsKnown events learnt p reply
      → Fits call reply

-- values that takes begun before some place cannot all have taken: the value of one put, which came out by a later take, or
-- those of several puts, of which fewer takes can have taken one
pub data Missing : Type 0 where
  late : (put take : ℕ) → Missing
  few : (puts takes : List ℕ) → Option Since → Missing

abbrev pub IsPutAmong : Missing → ℕ → Type 0
IsPutAmong (late put take) p = p ≡ put
IsPutAmong (few puts takes since) p = Contains puts p

abbrev pub AreMissing : List Event → List (Option Outcome) → ℕ → Missing → Type 0
AreMissing events learnt bound (late put take) = IsLate events learnt bound put take
AreMissing events learnt bound (few puts takes since) = IsFew events learnt bound puts takes since

-- values were passed over: a value came out by a take that ended at `bound` or did not end, each of the puts precedes its
-- put, and takes begun before `bound` cannot have taken all their values
pub record HasPassedOver (events : List Event) (learnt : List (Option Outcome)) (take put bound : ℕ) (value : Value)
    (missing : Missing) : Type 0 where
  pub puts : PutsAt events put value
  pub got : IsKnownGot events learnt take value
  pub bounded : IsOverBy events take bound ⊎ (length events ≤ bound)
  pub ahead : (p : ℕ) → IsPutAmong missing p → Precedes events p put
  pub lacks : AreMissing events learnt bound missing

-- the queue held something at the place: values of puts that had ended, which takes begun by then cannot all have taken
pub record IsHeldAt (events : List Event) (learnt : List (Option Outcome)) (place : ℕ) : Type 0 where
  pub missing : Missing
  pub ended : (p : ℕ) → IsPutAmong missing p → IsOverBy events p place
  pub lacks : AreMissing events learnt (place + 1) missing

-- a take that ended at `end`, or did not end, found nothing, but the queue held something all the while
pub record HasNotEmpty (events : List Event) (learnt : List (Option Outcome)) (take end : ℕ) : Type 0 where
  pub empty : IsKnown events learnt take Empty
  pub bounded : IsOverBy events take end ⊎ (length events ≤ end)
  pub held : (place : ℕ) → take ≤ place → place < end → IsHeldAt events learnt place

-- one of the four is in the recording
pub data HasPattern (events : List Event) (learnt : List (Option Outcome)) : Type 0 where
  invented : (take : ℕ) (value : Value) → ShowsInvented events learnt take value → HasPattern events learnt
  twice : (first second : ℕ) (value : Value) → ShowsTwice events learnt first second value → HasPattern events learnt
  passed_over : (take put bound : ℕ) (value : Value) (missing : Missing)
      → HasPassedOver events learnt take put bound value missing → HasPattern events learnt
  not_empty : (take end : ℕ) → HasNotEmpty events learnt take end → HasPattern events learnt

-- some order explains what is known
pub record HasOrder (events : List Event) (learnt : List (Option Outcome)) : Type 0 where
  pub order : List Entry
  pub explains : ExplainsFindings events learnt order
