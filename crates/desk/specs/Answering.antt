-- What the session, as it was marked, says of each answer.
use Rattle.std.specs.Prelude.{◌≡◌, ◌⊎◌, ◌≤◌, ◌<◌, ℕ, true, List, [], ◌∷◌, ◌++◌, IfErr, IsSome, None, OnOk, Option, Some, Result, Ok, Err}
use Rattle.words.specs.declared.call.Call.TheVariants.{Deq, Enq}
use Rattle.words.specs.declared.call.Client.{Client}
use Rattle.words.specs.declared.refusal.Refusal.{Refusal}
use Rattle.words.specs.declared.refusal.Refusal.TheVariants.{BadName, Busy, NoClient, NoMemory, NoQueue, NoRoom, NotReady}
use Rattle.words.specs.declared.told.Told.{Told}
use Rattle.directory.specs.declared.queue.Queue.{Queue}
use Rattle.named.specs.Brokers.{Brokered}
use Rattle.session.specs.Sessions.{Sessioned}
use Rattle.wire.specs.declared.answer.Answer.{Answer}
use Rattle.wire.specs.declared.answer.Answer.TheVariants.{Crashed, Created as created_answer, Interrupted as interrupted_answer, Queues, Ready, Refused, Reply, Stopping, Told as told_answer, Unfinished}
use Rattle.wire.specs.declared.request.Request.{Request}
use Rattle.wire.specs.declared.request.Request.TheVariants.{Create, Crash, List as list_request, Put, Recover, Stop, Take, Told as told_request}
use Rattle.workers.specs.Marks.{IsMarkedBy}
use Rattle.workers.specs.Moments.{GoesOnLater, IsBetween}
use Rattle.workers.specs.Recovered.{is_ready_by, IsRecoveryRefusal}
use Rattle.workers.specs.Seen.{HadCalled, HasStoppedSince, IfCreationBegun, IsCreationAt, IsListing, IsRefusedAt, IsTelling}
use Rattle.workers.specs.Seen.{MightBeCreated, WasDown}
use Rattle.workers.specs.declared.entry.End.{End}
use Rattle.workers.specs.declared.entry.End.TheVariants.{Answered, Interrupted, Open}
use Rattle.workers.specs.declared.entry.Entry.{Entry}
use Rattle.workers.specs.declared.shared.Created.{Created}
use Rattle.workers.specs.declared.shared.Created.TheVariants.{Interrupted as creation_interrupted, Queue as created_queue, Refused as creation_refused}
use Rattle.desk.specs.Calls.{call_in}
use Rattle.desk.specs.declared.calls.Asked.{Asked}

-- the answer says what came of it: what was done, or why it was refused
abbrev pub answer_as : {T : Type 0} → (T → Answer) → Result T Refusal → Answer
answer_as say (Ok done) = say done
answer_as say (Err refusal) = Refused refusal

pub record Says {T : Type 0} (say : T → Answer) (answer : Answer) (IsMade : Result T Refusal → Type 0) : Type 0 where
  pub result : Result T Refusal
  pub is : answer ≡ answer_as say result
  pub made : IsMade result

-- why a queue of no name is not found: it is not there, or the broker recovers
abbrev pub IsWhyNameless : Brokered → Refusal → Type 0
IsWhyNameless b NoQueue = b.recovery ≡ None
IsWhyNameless b NotReady = IsSome b.recovery
IsWhyNameless b _ = ⊥

-- the last call of the list is the one that was asked for, and this became of it
pub record IsLastCall (list : List Entry) (asked : Asked) (end : End) : Type 0 where
  pub before : List Entry
  pub entry : Entry
  pub is : list ≡ before ++ entry ∷ []
  pub queue : asked.queue ≡ Some entry.name
  pub number : asked.number ≡ entry.number
  pub call : asked.call ≡ entry.call
  pub ended : entry.end ≡ end

-- The histories of the session have that call as the client's last one. Behind the session that was marked before, the
-- histories had the same calls without it: so it was made for this answer
pub record IsCallMade (first before s : Sessioned) (client : Client) (asked : Asked) (end : End) : Type 0 where
  pub list : List Entry
  pub last : IsLastCall list asked end
  pub marked : IsMarkedBy first client list s
  pub since : HadCalled first client last.before before s

-- the session refuses that call, in the queue of its name, or of none
abbrev pub IsRefusedIn : Sessioned → Client → Asked → Option (List ℕ) → Refusal → Type 0
IsRefusedIn s client asked (Some name) refusal = IsRefusedAt s client (call_in name asked) refusal
IsRefusedIn s client asked None refusal = IsWhyNameless s.broker refusal

-- why a queue may not begin in fresh records
abbrev pub IsWhyUnrenewed : Refusal → Type 0
IsWhyUnrenewed NotReady = Unit {0}
IsWhyUnrenewed NoQueue = Unit {0}
IsWhyUnrenewed Busy = Unit {0}
IsWhyUnrenewed NoRoom = Unit {0}
IsWhyUnrenewed NoMemory = Unit {0}
IsWhyUnrenewed _ = ⊥

-- Why a call is refused: the session refuses it so. Or it refuses it for want of room, and its queue could not begin in
-- fresh records for this reason. Or another call of the client is under way (Busy), or there is no memory
abbrev pub IsWhyUncalled : Sessioned → Client → Asked → Refusal → Type 0
IsWhyUncalled s client asked refusal =
    (refusal ≡ Busy) ⊎ (refusal ≡ NoMemory) ⊎ IsRefusedIn s client asked asked.queue refusal
    ⊎ (IsWhyUnrenewed refusal × IsRefusedIn s client asked asked.queue NoRoom)

-- what a call is answered
abbrev pub IsCallAnswer : Sessioned → Sessioned → Sessioned → Client → Asked → Answer → Type 0
IsCallAnswer first before s client asked (Reply reply) = IsCallMade first before s client asked (Answered reply)
IsCallAnswer first before s client asked interrupted_answer = IsCallMade first before s client asked Interrupted
IsCallAnswer first before s client asked Unfinished = IsCallMade first before s client asked Open
IsCallAnswer first before s client asked (Refused refusal) = IsWhyUncalled s client asked refusal
IsCallAnswer first before s client asked _ = ⊥

-- where there are so many clients: there is none of this number, or this is so of it
abbrev pub OfClient : ℕ → ℕ → Answer → (Client → Type 0) → Type 0
OfClient clients number answer IsSo =
    ((clients ≤ number) × (answer ≡ Refused NoClient)) ⊎ ((number < clients) × IsSo (record { 0 = number }))

-- what a client was last told, in the queue of a name, or of none
abbrev pub IsTellingIn : Brokered → Client → Option (List ℕ) → Result Told Refusal → Type 0
IsTellingIn b client (Some name) result = IsTelling b client name result
IsTellingIn b client None (Ok told) = ⊥
IsTellingIn b client None (Err refusal) = IsWhyNameless b refusal

-- there is no client of this number, or it was told so
abbrev pub IsToldOf : ℕ → Brokered → ℕ → Option (List ℕ) → Result Told Refusal → Type 0
IsToldOf clients b number queue result =
    ((clients ≤ number) × (result ≡ Err NoClient))
    ⊎ ((number < clients) × IsTellingIn b (record { 0 = number }) queue result)

-- what is told of a creation
abbrev pub creation_on_wire : Created → Answer
creation_on_wire (created_queue slot) = created_answer slot
creation_on_wire (creation_refused refusal) = Refused refusal
creation_on_wire creation_interrupted = interrupted_answer

-- what became of it; where it had begun, no queue had the name yet, behind the session that was marked before
pub record SaysOfCreation (before s : Sessioned) (queue : Queue) (answer : Answer) : Type 0 where
  pub created : Created
  pub is : answer ≡ creation_on_wire created
  pub at : IsCreationAt s.broker queue created
  pub since : IfCreationBegun created (MightBeCreated before s queue.name)

abbrev pub IsCreationAnswer : Sessioned → Sessioned → Option (List ℕ) → (List ℕ → Queue) → Answer → Type 0
IsCreationAnswer before s (Some name) queue answer = SaysOfCreation before s (queue name) answer
IsCreationAnswer before s None queue answer = answer ≡ Refused BadName

-- a crash stops the broker; it is refused for want of memory alone
pub record IsCrashAt (before s : Sessioned) (result : Result Unit Refusal) : Type 0 where
  pub stopped : OnOk result (HasStoppedSince before s)
  pub errors : IfErr result (λ refusal. refusal ≡ NoMemory)

-- a recovery leaves it ready where it was down, or finds it so
pub record IsRecoveryAt (before s : Sessioned) (result : Result Unit Refusal) : Type 0 where
  pub ready : is_ready_by result ≡ true → s.broker.recovery ≡ None
  pub down : OnOk result (WasDown before s)
  pub errors : IfErr result IsRecoveryRefusal

-- The session says so of this answer to a request, where there are so many clients, and the session was the first one
-- when the seats were given. What the answer says was done was done behind the session that was marked before
abbrev pub IsAnsweredAt : ℕ → Sessioned → Sessioned → Sessioned → Request → Answer → Type 0
IsAnsweredAt clients first before s (Create queue kind) answer =
    IsCreationAnswer before s queue (λ name. record { name = name; kind = kind }) answer
IsAnsweredAt clients first before s list_request answer = Says Queues answer (IsListing s.broker)
IsAnsweredAt clients first before s (Put client queue value number) answer =
    OfClient clients client answer
    (λ c. IsCallAnswer first before s c (record { queue = queue; number = number; call = Enq value }) answer)
IsAnsweredAt clients first before s (Take client queue number) answer =
    OfClient clients client answer
    (λ c. IsCallAnswer first before s c (record { queue = queue; number = number; call = Deq }) answer)
IsAnsweredAt clients first before s (told_request client queue) answer =
    OfClient clients client answer (λ c. Says told_answer answer (IsTellingIn s.broker c queue))
IsAnsweredAt clients first before s Crash answer = Says (λ done. Crashed) answer (IsCrashAt before s)
IsAnsweredAt clients first before s Recover answer = Says (λ done. Ready) answer (IsRecoveryAt before s)
IsAnsweredAt clients first before s Stop answer = answer ≡ Stopping

-- so it is of a session between these
abbrev pub IsAnsweredBetween : ℕ → Sessioned → Sessioned → Sessioned → Request → Answer → Type 0
IsAnsweredBetween clients first before now request answer =
    IsBetween before now (λ s. IsAnsweredAt clients first before s request answer)

-- so it is of a put or a take
abbrev pub IsCalledBetween : Sessioned → Sessioned → Sessioned → Client → Option Asked → Answer → Type 0
IsCalledBetween first before now client (Some asked) answer =
    IsBetween before now (λ s. IsCallAnswer first before s client asked answer)
IsCalledBetween first before now client None answer = Unit {0}

-- and of a client of this number, if there is one
abbrev pub IsCalledOf : ℕ → Sessioned → Sessioned → Sessioned → ℕ → Option Asked → Answer → Type 0
IsCalledOf clients first before now number (Some asked) answer =
    IsBetween before now (λ s. OfClient clients number answer (λ c. IsCallAnswer first before s c asked answer))
IsCalledOf clients first before now number None answer = Unit {0}

-- Requests are answered in turn: each by what the session was at a moment behind that of the answer before, up to the
-- session as it was marked last
pub data AreAnsweredInTurn (clients : ℕ) (first start : Sessioned) : List (Request × Answer) → Sessioned → Type 0 where
  nothing : AreAnsweredInTurn clients first start [] start
  marked : {served : List (Request × Answer)} {before now : Sessioned}
      (turn : AreAnsweredInTurn clients first start served before) (later : GoesOnLater before now)
      → AreAnsweredInTurn clients first start served now
  answered : {served : List (Request × Answer)} {before now : Sessioned} (request : Request) (answer : Answer)
      (turn : AreAnsweredInTurn clients first start served before)
      (is : IsAnsweredBetween clients first before now request answer)
      → AreAnsweredInTurn clients first start (served ++ (request, answer) ∷ []) now

-- from some session on, which came of the first one
pub record IsServedInTurn (clients : ℕ) (first : Sessioned) (served : List (Request × Answer)) (now : Sessioned)
    : Type 0 where
  pub start : Sessioned
  pub came : GoesOnLater first start
  pub turn : AreAnsweredInTurn clients first start served now

-- sessions are marked before and behind an answer, which is between them
abbrev pub IsAnsweredAtMark : ℕ → Sessioned → Option Sessioned → Option Sessioned → Request → Answer → Type 0
IsAnsweredAtMark clients first (Some before) (Some now) request answer =
    IsAnsweredBetween clients first before now request answer
IsAnsweredAtMark clients first (Some before) None request answer = ⊥
IsAnsweredAtMark clients first None now request answer = ⊥

-- where a session is marked
abbrev pub IsServedAtMark : ℕ → Sessioned → List (Request × Answer) → Option Sessioned → Type 0
IsServedAtMark clients first served (Some now) = IsServedInTurn clients first served now
IsServedAtMark clients first served None = ⊥
