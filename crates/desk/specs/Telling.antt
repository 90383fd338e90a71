-- Replies that the lists of seats have, at sessions that were marked.
use Rattle.std.specs.Prelude.{◌≡◌, ℕ, List, Option, Some, slice_get}
use Rattle.words.specs.declared.call.Client.{Client}
use Rattle.words.specs.declared.call.Reply.{Reply as AnyReply}
use Rattle.session.specs.Sessions.{Sessioned}
use Rattle.wire.specs.declared.answer.Answer.{Answer}
use Rattle.wire.specs.declared.answer.Answer.TheVariants.{Reply}
use Rattle.wire.specs.declared.request.Request.{Request}
use Rattle.wire.specs.declared.request.Request.TheVariants.{Put, Take}
use Rattle.workers.specs.Marks.{IsMarkedBy}
use Rattle.workers.specs.Moments.{GoesOnLater}
use Rattle.workers.specs.declared.entry.End.TheVariants.{Answered}
use Rattle.workers.specs.declared.entry.Entry.{Entry}
use Rattle.desk.specs.Calls.{asked_in}
use Rattle.desk.specs.declared.calls.Asked.{Asked}

-- the list has the call that was asked for, with this reply
pub record HasReply (list : List Entry) (asked : Asked) (reply : AnyReply) : Type 0 where
  pub index : ℕ
  pub entry : Entry
  pub at : slice_get list index ≡ Some entry
  pub queue : asked.queue ≡ Some entry.name
  pub number : asked.number ≡ entry.number
  pub call : asked.call ≡ entry.call
  pub end : entry.end ≡ Answered reply

-- so has the client's list at a session that was marked, and this session goes on from that one
pub record IsReplied (first now : Sessioned) (client : Client) (asked : Asked) (reply : AnyReply) : Type 0 where
  pub list : List Entry
  pub has : HasReply list asked reply
  pub session : Sessioned
  pub marked : IsMarkedBy first client list session
  pub later : GoesOnLater session now

-- an answer to what a client asks for stands there, if it is a reply
abbrev pub IsRepliedIf : Sessioned → Sessioned → Client → Option Asked → Answer → Type 0
IsRepliedIf first now client (Some asked) (Reply reply) = IsReplied first now client asked reply
IsRepliedIf first now client _ _ = Unit {0}

-- who asks, by a put or a take
abbrev pub client_in : Request → Client
client_in (Put client queue value number) = record { 0 = client }
client_in (Take client queue number) = record { 0 = client }
client_in _ = record { 0 = 0 }

abbrev pub IsRepliedTo : Sessioned → Sessioned → Request → Answer → Type 0
IsRepliedTo first now request answer = IsRepliedIf first now (client_in request) (asked_in request) answer

-- so does each answer of these
pub record AreReplied (first now : Sessioned) (served : List (Request × Answer)) : Type 0 where
  pub each : (k : ℕ) (request : Request) (answer : Answer) → slice_get served k ≡ Some (request, answer)
      → IsRepliedTo first now request answer
