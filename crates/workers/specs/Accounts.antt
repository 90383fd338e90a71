-- What a list and a history say of each other: how many calls each has, and what became of a call.
use Rattle.std.specs.Prelude.{◌≡◌, ◌==◌, ◌&&◌, ℕ, Bool, false, is_some, List, None, Some, count_by, drop, slice_get}
use Rattle.words.specs.PlainQueue.{Value, reply_of}
use Rattle.words.specs.declared.call.Call.{Call}
use Rattle.words.specs.declared.call.Client.{Client}
use Rattle.words.specs.declared.call.Kind.TheVariants.{Log as log_kind}
use Rattle.words.specs.declared.call.Reply.{Reply}
use Rattle.events.specs.Orders.{IsTakenAs}
use Rattle.events.specs.Telling.{IsToldTaken}
use Rattle.events.specs.declared.event.Event.{Event}
use Rattle.events.specs.declared.event.Event.TheVariants.{Call as call_event, Return as return_event}
use Rattle.events.specs.declared.event.Event.TheVariants.{Crash as crash_event, Ready as ready_event}
use Rattle.interleave.specs.State.{State, order_in}
use Rattle.named.specs.Brokers.{world_at}
use Rattle.session.specs.Promises.{KeepsNumbers}
use Rattle.session.specs.Requests.{number_or_zero}
use Rattle.session.specs.Sessions.{Sessioned}
use Rattle.workers.specs.Lists.{HasEntryAt, HasReturned, IsCutOff, IsRecorded, events_at}
use Rattle.workers.specs.declared.entry.End.{End}
use Rattle.workers.specs.declared.entry.End.TheVariants.{Answered, Interrupted}
use Rattle.workers.specs.declared.entry.Entry.{Entry}

-- whether the entry's call ran in the queue of this slot
abbrev pub ran_in : ℕ → Entry → Bool
ran_in slot e = (e.queue.0 == slot) && is_some e.place

-- how many calls of the list ran there
abbrev pub ran_count : ℕ → List Entry → ℕ
ran_count slot list = count_by (ran_in slot) list

-- whether the event begins a call of the client
abbrev pub begins_call : Client → Event → Bool
begins_call client (call_event other number call) = other.0 == client.0
begins_call client (return_event other reply) = false
begins_call client crash_event = false
begins_call client (ready_event told) = false

-- how many calls of the client the history has from this place on
abbrev pub call_count : ℕ → Client → List Event → ℕ
call_count since client events = count_by (begins_call client) (drop since events)

-- so many as the list has that ran there, in each queue, from these places on
abbrev pub AreCallsCounted : (ℕ → ℕ) → Sessioned → Client → List Entry → Type 0
AreCallsCounted since s client list =
    (slot : ℕ) → ran_count slot list ≡ call_count (since slot) client (events_at s.broker slot)

-- the client's call at the place returned this, and stands in the order with it
pub record IsAnsweredAs (w : State) (client : Client) (place : ℕ) (reply : Reply) : Type 0 where
  pub returned : HasReturned w.log.events client place reply
  pub taken : IsTakenAs (order_in w) place reply

-- a crash ended the client's call at the place, and that call stands in the order only where the next Ready after the
-- crash tells the client that its number took effect, with the reply that it has in the order
pub record IsToldOfCall (w : State) (client : Client) (place number : ℕ) : Type 0 where
  pub cut_off : IsCutOff w.log.events client place
  pub told : (reply : Reply) → IsTakenAs (order_in w) place reply
      → IsToldTaken w.log.events client number reply cut_off.end

-- the list has a call that ran in the queue of this world, from this place, and this became of it
pub record HasEndedCall (s : Sessioned) (list : List Entry) (w : State) (place : ℕ) (end : End) : Type 0 where
  pub slot : ℕ
  pub here : world_at s.broker slot ≡ Some w
  pub has : HasEntryAt list slot place
  pub ended : has.entry.end ≡ end

-- each call that the list says was answered, in a queue of either kind, returned that reply, and took effect with it
abbrev pub AreAnswersTaken : Sessioned → Client → List Entry → Type 0
AreAnswersTaken s client list =
    (w : State) (place : ℕ) (reply : Reply) → HasEndedCall s list w place (Answered reply)
    → IsAnsweredAs w client place reply

-- each call of a log queue that the list says was interrupted was ended by a crash, and took effect only where the
-- client was told so
abbrev pub AreInterruptedTold : Sessioned → Client → List Entry → Type 0
AreInterruptedTold s client list =
    (w : State) (place : ℕ) (call : HasEndedCall s list w place Interrupted) → w.shape.kind ≡ log_kind
    → IsToldOfCall w client place (number_or_zero call.has.entry.number)

-- the plain queue may reply so to the call
pub record IsReplyTo (call : Call) (reply : Reply) : Type 0 where
  pub queue : List Value
  pub is : reply ≡ reply_of queue call

-- so it is of each call without a number that was answered
abbrev pub ArePlainRepliesFit : Sessioned → Client → List Entry → Type 0
ArePlainRepliesFit s client list =
    (k : ℕ) (e : Entry) (reply : Reply) → slice_get list k ≡ Some e → e.number ≡ None → e.end ≡ Answered reply
    → IsReplyTo e.call reply

-- so it is of each session that keeps its promises, with a client and the list that fits its histories
abbrev pub IsSoOfRecorded : (Sessioned → Client → List Entry → Type 0) → Type 0
IsSoOfRecorded IsSo =
    (since : ℕ → ℕ) (s : Sessioned) (client : Client) (list : List Entry) → KeepsNumbers s
    → IsRecorded since s client list → IsSo s client list
