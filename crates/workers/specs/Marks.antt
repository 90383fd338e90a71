-- What a marked session tells of a client's calls.
use Rattle.std.specs.Prelude.{◌≡◌, ◌<◌, ℕ, List, None, Ok, Some, slice_get}
use Rattle.words.specs.declared.call.Client.{Client}
use Rattle.words.specs.declared.call.Kind.TheVariants.{Log as log_kind}
use Rattle.words.specs.declared.call.Reply.{Reply}
use Rattle.interleave.specs.State.{State}
use Rattle.interleave.specs.Verdicts.{IsIdle, kept_told}
use Rattle.named.specs.Brokers.{world_at}
use Rattle.session.specs.Keeping.{IsSettled, verdict_heard}
use Rattle.session.specs.Sessions.{Sessioned, kept_at}
use Rattle.workers.specs.Following.{beginnings}
use Rattle.workers.specs.Lists.{AreNamed, IsRecorded}
use Rattle.workers.specs.Moments.{IsMomentOf}
use Rattle.workers.specs.declared.entry.End.TheVariants.{Answered}
use Rattle.workers.specs.declared.entry.Entry.{Entry}

-- the session is at a moment, and what its histories have of the client's calls is this list: so they have each answer
-- that the list has
pub record IsMarkedBy (first : Sessioned) (client : Client) (list : List Entry) (session : Sessioned) : Type 0 where
  pub moment : IsMomentOf first session session.broker.words.kept
  pub recorded : IsRecorded (beginnings first moment.goes_on.ended) session client list
  pub named : AreNamed session.broker.directory list

-- the entry's call, which has this number, ran in a log queue of the session, which is ready, and its client calls
-- nothing there any more
pub record RanNumbered (s : Sessioned) (client : Client) (entry : Entry) (number : ℕ) : Type 0 where
  pub number_is : entry.number ≡ Some number
  pub place : ℕ
  pub place_is : entry.place ≡ Some place
  pub ready : s.broker.recovery ≡ None
  pub world : State
  pub here : world_at s.broker entry.queue.0 ≡ Some world
  pub log : world.shape.kind ≡ log_kind
  pub few : client.0 < world.shape.clients
  pub idle : IsIdle world client

-- the list has such a call, which was answered with this reply
pub record HasNumberAnswered (s : Sessioned) (client : Client) (list : List Entry) (number : ℕ) (reply : Reply)
    : Type 0 where
  pub index : ℕ
  pub entry : Entry
  pub at : slice_get list index ≡ Some entry
  pub ran : RanNumbered s client entry number
  pub end : entry.end ≡ Answered reply

-- each such number is settled in the session
abbrev pub AreAnswersSettled : Sessioned → Client → List Entry → Type 0
AreAnswersSettled s client list =
    (number : ℕ) (reply : Reply) (has : HasNumberAnswered s client list number reply)
    → IsSettled (kept_at s has.entry.queue.0 client) number reply

-- and the kept words tell so
abbrev pub AreAnswersTold : Sessioned → Client → List Entry → Type 0
AreAnswersTold s client list =
    (number : ℕ) (reply : Reply) (has : HasNumberAnswered s client list number reply)
    → IsSettled (verdict_heard (Ok (kept_told has.ran.world client))) number reply

-- so it is of each session that was marked, with a client and the list that its seat had then
abbrev pub IsSoOfMarked : (Sessioned → Client → List Entry → Type 0) → Type 0
IsSoOfMarked IsSo =
    (first session : Sessioned) (client : Client) (list : List Entry)
    → IsMarkedBy first client list session → IsSo session client list
