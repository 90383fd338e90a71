-- Which refusals the calls of a shared session get, and why, as far as that is so for good.
use Rattle.std.specs.Prelude.{◌≡◌, ◌<◌, ◌≤◌, ℕ, Bool, true, false, IsSome, List, None, Option, Result, Ok, Err, Some}
use Rattle.words.specs.declared.call.Client.{Client}
use Rattle.words.specs.declared.call.Kind.{Kind}
use Rattle.words.specs.declared.call.Kind.TheVariants.{Durable as durable_kind, Log as log_kind}
use Rattle.words.specs.declared.call.Reply.{Reply}
use Rattle.words.specs.declared.limits.TheConstants.{MAX_CALL_NUMBER}
use Rattle.words.specs.declared.refusal.Refusal.{Refusal}
use Rattle.words.specs.declared.refusal.Refusal.TheVariants.{BadName, Busy, DirectoryFull, Exists, Gap, NoClient, NoMemory}
use Rattle.words.specs.declared.refusal.Refusal.TheVariants.{NoQueue, NoRoom, NotReady, Old, StaleNumber, WrongKind}
use Rattle.arena.specs.declared.broker.SlotId.{SlotId}
use Rattle.directory.specs.Directory.{HasName, HasQueue, IsNamed}
use Rattle.directory.specs.declared.queue.Queue.{Queue}
use Rattle.interleave.specs.State.{is_start_refusal}
use Rattle.named.specs.Brokers.{is_down}
use Rattle.session.specs.Keeping.{IsSettled}
use Rattle.session.specs.Requests.{number_or_zero}
use Rattle.session.specs.Sessions.{IsLogClient, Sessioned, kept_at}
use Rattle.workers.specs.Lists.{ends_open}
use Rattle.workers.specs.declared.entry.Answer.{Answer}
use Rattle.workers.specs.declared.entry.Answer.TheVariants.{Refused, Reply as answer_reply, Interrupted as answer_interrupted, Unfinished}
use Rattle.workers.specs.declared.entry.Entry.{Entry}
use Rattle.workers.specs.declared.entry.Request.{Request}
use Rattle.workers.specs.declared.shared.Created.{Created}
use Rattle.workers.specs.declared.shared.Created.TheVariants.{Queue as created_queue, Refused as creation_refused, Interrupted as creation_interrupted}

-- whether a creation may be refused so
abbrev pub is_creation_refusal : Refusal → Bool
is_creation_refusal BadName = true
is_creation_refusal NotReady = true
is_creation_refusal Busy = true
is_creation_refusal Exists = true
is_creation_refusal DirectoryFull = true
is_creation_refusal _ = false

-- whether a call may be
abbrev pub is_call_refusal : Refusal → Bool
is_call_refusal NoQueue = true
is_call_refusal WrongKind = true
is_call_refusal Old = true
is_call_refusal Gap = true
is_call_refusal refusal = is_start_refusal refusal

-- the kind of queue that a call is for: a log queue, if it has a number
abbrev pub kind_asked : Option ℕ → Kind
kind_asked (Some number) = log_kind
kind_asked None = durable_kind

-- the queue of this name was of another kind than a call is for, when the session was this one
abbrev pub HadOtherKind : Sessioned → Request → Type 0
HadOtherKind first r =
    (slot : ℕ) (q : Queue) → HasQueue first.broker.directory slot q → q.name ≡ r.name → q.kind ≡ kind_asked r.number → ⊥

-- Why a call may be refused, as far as that is so for good, where the session was this one when the seats were given,
-- and the seat has this list. Busy: the seat has an open call, if the broker was ready then. NoQueue, WrongKind: there
-- was no queue of the name then, or one of the other kind. Of a client that there is not no seat is given. For any other
-- reason that its queue has, as it has no room or is not ready, it may be refused at any time
abbrev pub IsWhyRefused : Sessioned → List Entry → Request → Refusal → Type 0
IsWhyRefused first list r Busy = is_down first.broker ≡ false → ends_open list ≡ true
IsWhyRefused first list r NoQueue = HasName first.broker.directory r.name → ⊥
IsWhyRefused first list r WrongKind = HadOtherKind first r
IsWhyRefused first list r Old = IsSome r.number
IsWhyRefused first list r Gap = IsSome r.number
IsWhyRefused first list r StaleNumber = MAX_CALL_NUMBER < number_or_zero r.number
IsWhyRefused first list r NoClient = ⊥
IsWhyRefused first list r refusal = is_start_refusal refusal ≡ true

-- the client's number was settled with this reply, in the queue of this name, when the session was this one
pub record WasSettled (first : Sessioned) (client : Client) (r : Request) (reply : Reply) : Type 0 where
  pub slot : ℕ
  pub named : IsNamed first.broker.directory slot r.name
  pub its : IsLogClient first.broker slot client
  pub n : ℕ
  pub number_is : r.number ≡ Some n
  pub settled : IsSettled (kept_at first slot client) n reply

-- whether a settled number may be refused so
abbrev pub is_settled_refusal : Refusal → Bool
is_settled_refusal Old = true
is_settled_refusal NotReady = true
is_settled_refusal Busy = true
is_settled_refusal NoMemory = true
is_settled_refusal _ = false

-- what is answered to a number that is settled with this reply: the reply, or such a refusal
abbrev pub IsSettledAnswer : Reply → Answer → Type 0
IsSettledAnswer reply (answer_reply given) = given ≡ reply
IsSettledAnswer reply (Refused refusal) = is_settled_refusal refusal ≡ true
IsSettledAnswer reply answer_interrupted = ⊥
IsSettledAnswer reply Unfinished = ⊥

-- what a start of it comes to: nothing runs
abbrev pub IsSettledStart : Reply → Result (Option Reply) Refusal → Type 0
IsSettledStart reply (Ok began) = began ≡ Some reply
IsSettledStart reply (Err refusal) = is_settled_refusal refusal ≡ true

-- Why what a client was last told may be, where there are so many clients. NoQueue: there was no queue of this name when
-- the seats were given
abbrev pub IsWhyNotTold : ℕ → Sessioned → List ℕ → Client → Refusal → Type 0
IsWhyNotTold clients first name client NoClient = clients ≤ client.0
IsWhyNotTold clients first name client NotReady = Unit {0}
IsWhyNotTold clients first name client NoQueue = HasName first.broker.directory name → ⊥
IsWhyNotTold clients first name client _ = ⊥

-- whether it may be refused so
abbrev pub is_told_refusal : Refusal → Bool
is_told_refusal NoClient = true
is_told_refusal NotReady = true
is_told_refusal NoQueue = true
is_told_refusal _ = false

-- whether a rotation may be
abbrev pub is_rotation_refusal : Refusal → Bool
is_rotation_refusal NotReady = true
is_rotation_refusal Busy = true
is_rotation_refusal NoMemory = true
is_rotation_refusal _ = false

-- Why a queue is not renewed, as far as that is so for good. NoQueue: the slot had no queue when the seats were given
abbrev pub IsWhyNotRenewed : Sessioned → SlotId → Refusal → Type 0
IsWhyNotRenewed first slot NotReady = Unit {0}
IsWhyNotRenewed first slot NoQueue = (q : Queue) → HasQueue first.broker.directory slot.0 q → ⊥
IsWhyNotRenewed first slot Busy = Unit {0}
IsWhyNotRenewed first slot NoRoom = Unit {0}
IsWhyNotRenewed first slot NoMemory = Unit {0}
IsWhyNotRenewed first slot _ = ⊥

-- why it is not told what a queue holds
abbrev pub IsWhyNoUsage : Sessioned → SlotId → Refusal → Type 0
IsWhyNoUsage first slot NoQueue = (q : Queue) → HasQueue first.broker.directory slot.0 q → ⊥
IsWhyNoUsage first slot NoMemory = Unit {0}
IsWhyNoUsage first slot _ = ⊥

-- whether a creation was refused; where it was, the refusal is as P says
abbrev pub is_refused : Created → Bool
is_refused (created_queue slot) = false
is_refused (creation_refused refusal) = true
is_refused creation_interrupted = false

abbrev pub IfNotCreated : Created → (Refusal → Type 0) → Type 0
IfNotCreated (created_queue slot) P = Unit {0}
IfNotCreated (creation_refused refusal) P = P refusal
IfNotCreated creation_interrupted P = Unit {0}

-- where a call was refused, the refusal is as P says
abbrev pub IfNotMade : Answer → (Refusal → Type 0) → Type 0
IfNotMade (answer_reply reply) P = Unit {0}
IfNotMade (Refused refusal) P = P refusal
IfNotMade answer_interrupted P = Unit {0}
IfNotMade Unfinished P = Unit {0}
