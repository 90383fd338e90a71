-- What is answered to a put or a take, and what its seat's list has of it.
use Rattle.std.specs.Prelude.{◌≡◌, ◌⊎◌, ℕ, true, false, List, Option, None, Some, IfSome, Result, Ok, Err, MatchBool}
use Rattle.words.specs.declared.call.Call.TheVariants.{Enq, Deq}
use Rattle.words.specs.declared.call.Client.{Client}
use Rattle.words.specs.declared.call.Reply.{Reply as AnyReply}
use Rattle.words.specs.declared.refusal.Refusal.{Refusal}
use Rattle.words.specs.declared.refusal.Refusal.TheVariants.{Busy, NoQueue, NotReady}
use Rattle.directory.specs.Directory.{Directory}
use Rattle.session.specs.Sessions.{Sessioned}
use Rattle.wire.specs.declared.answer.Answer.{Answer}
use Rattle.wire.specs.declared.answer.Answer.TheVariants.{Reply, Refused, Interrupted, Unfinished}
use Rattle.wire.specs.declared.request.Request.{Request}
use Rattle.wire.specs.declared.request.Request.TheVariants.{Put, Take}
use Rattle.workers.specs.Answers.{Remembers}
use Rattle.workers.specs.Lists.{ends_open, is_open, with_end}
use Rattle.workers.specs.Refusals.{IfNotMade, IsWhyRefused, WasSettled, is_settled_refusal}
use Rattle.workers.specs.declared.entry.Answer.{Answer as SeatAnswer}
use Rattle.workers.specs.declared.entry.Answer.TheVariants.{Reply as seat_reply, Refused as seat_refused, Interrupted as seat_interrupted, Unfinished as seat_unfinished}
use Rattle.workers.specs.declared.entry.End.{End}
use Rattle.workers.specs.declared.entry.Entry.{Entry}
use Rattle.workers.specs.declared.entry.Request.{Request as Call}
use Rattle.desk.specs.declared.calls.Asked.{Asked}

-- what a put or a take asks for; another request asks for no call
abbrev pub asked_in : Request → Option Asked
asked_in (Put client queue value number) = Some (record { queue = queue; number = number; call = Enq value })
asked_in (Take client queue number) = Some (record { queue = queue; number = number; call = Deq })
asked_in _ = None

-- what a connection is told of what its seat was answered
abbrev pub answer_on_wire : SeatAnswer → Answer
answer_on_wire (seat_reply reply) = Reply reply
answer_on_wire (seat_refused refusal) = Refused refusal
answer_on_wire seat_interrupted = Interrupted
answer_on_wire seat_unfinished = Unfinished

-- the open call has its end
pub record HasEnded (old new : List Entry) : Type 0 where
  pub end : End
  pub ended : is_open end ≡ false
  pub is : new ≡ with_end end old

-- a call that was left open is finished
abbrev pub IsSettled : List Entry → List Entry → Type 0
IsSettled old new = MatchBool (ends_open old) (HasEnded old new) (new ≡ old)

-- the call that is asked for, in the queue of this name
abbrev pub call_in : List ℕ → Asked → Call
call_in name asked = record { name = name; number = asked.number; call = asked.call }

-- The list has exactly this call more, with what is answered, or no more where the call is refused, and why. A call that
-- was left open is finished before.
pub record RemembersCall (first : Sessioned) (old : List Entry) (asked : Asked) (answer : Answer) (new : List Entry)
    : Type 0 where
  pub settled : List Entry
  pub is_settled : IsSettled old settled
  pub name : List ℕ
  pub name_is : asked.queue ≡ Some name
  pub given : SeatAnswer
  pub is : answer ≡ answer_on_wire given
  pub remembers : Remembers settled (call_in name asked) given new
  pub why : IfNotMade given (IsWhyRefused first settled (call_in name asked))

-- why a queue of no name is not found, where a list of the queues was answered so
abbrev pub why_nameless : Result Directory Refusal → Refusal
why_nameless (Ok places) = NoQueue
why_nameless (Err refusal) = refusal

-- a queue of no name is not there, or the broker recovers
abbrev pub IsOfNoName : Refusal → Type 0
IsOfNoName refusal = (refusal ≡ NotReady) ⊎ (refusal ≡ NoQueue)

-- so a call in it is not made. A call that was left open is finished before
pub record IsNotMade (old : List Entry) (asked : Asked) (answer : Answer) (new : List Entry) : Type 0 where
  pub is_settled : IsSettled old new
  pub nameless : asked.queue ≡ None
  pub refusal : Refusal
  pub why : IsOfNoName refusal
  pub is : answer ≡ Refused refusal

-- the open call could not be finished for want of memory, and stays
pub record StaysOpen (old : List Entry) (answer : Answer) (new : List Entry) : Type 0 where
  pub busy : answer ≡ Refused Busy
  pub left_open : ends_open old ≡ true
  pub same : new ≡ old

-- where the session was this one when the seats were given
abbrev pub AnswersCall : Sessioned → List Entry → Asked → Answer → List Entry → Type 0
AnswersCall first old asked answer new =
    StaysOpen old answer new ⊎ IsNotMade old asked answer new ⊎ RemembersCall first old asked answer new

-- so it is of what a request asks for, if it is a put or a take
abbrev pub AnswersAsked : Sessioned → List Entry → Request → Answer → List Entry → Type 0
AnswersAsked first old request answer new =
    IfSome (asked_in request) (λ asked. AnswersCall first old asked answer new)

-- what is answered to a number that was settled with this reply: the reply, or such a refusal
abbrev pub IsSettledOnWire : AnyReply → Answer → Type 0
IsSettledOnWire reply (Reply given) = given ≡ reply
IsSettledOnWire reply (Refused refusal) = is_settled_refusal refusal ≡ true
IsSettledOnWire reply _ = ⊥

-- so is the client's number, where it was settled when the seats were given
abbrev pub AnswersSettled : Sessioned → Client → Asked → Answer → Type 0
AnswersSettled first client asked answer =
    (name : List ℕ) (reply : AnyReply) → asked.queue ≡ Some name → WasSettled first client (call_in name asked) reply
    → IsSettledOnWire reply answer
