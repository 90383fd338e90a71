-- What a session was when it gave an answer.
use Rattle.std.specs.Prelude.{◌≡◌, ◌⊎◌, ℕ, Bool, true, IsSome, List, None, Option, Some, Result, Ok, Err}
use Rattle.words.specs.declared.call.Client.{Client}
use Rattle.words.specs.declared.call.Reply.{Reply}
use Rattle.words.specs.declared.refusal.Refusal.{Refusal}
use Rattle.words.specs.declared.refusal.Refusal.TheVariants.{BadName, Busy, DirectoryFull, Exists, NoMemory, NotReady}
use Rattle.words.specs.declared.told.Told.{Told}
use Rattle.arena.specs.declared.broker.SlotId.{SlotId}
use Rattle.directory.specs.Directory.{Directory, HasName, HasQueue, IsFree}
use Rattle.directory.specs.Name.{IsName}
use Rattle.directory.specs.declared.queue.Queue.{Queue}
use Rattle.interleave.specs.Queue.{told_in, told_to}
use Rattle.named.specs.Brokers.{Brokered, MayCreate, answer_at, room_at}
use Rattle.named.specs.Finding.{IsPlaced}
use Rattle.named.specs.Rotating.{IsRotated}
use Rattle.named.specs.Stopping.{IsStopped}
use Rattle.session.specs.Requests.{answer_to, beginning, number_or_zero}
use Rattle.session.specs.Sessions.{Sessioned}
use Rattle.workers.specs.Lists.{ends_open}
use Rattle.workers.specs.Marks.{IsMarkedBy}
use Rattle.workers.specs.Moments.{GoesOnLater, IsBetween}
use Rattle.workers.specs.Renewing.{IsRenewedOn}
use Rattle.workers.specs.declared.entry.Answer.{Answer}
use Rattle.workers.specs.declared.entry.Answer.TheVariants.{Refused, Reply as answer_reply, Interrupted as answer_interrupted, Unfinished}
use Rattle.workers.specs.declared.entry.Entry.{Entry}
use Rattle.workers.specs.declared.entry.Request.{Request}
use Rattle.workers.specs.declared.shared.Created.{Created}
use Rattle.workers.specs.declared.shared.Created.TheVariants.{Interrupted, Queue as created_queue, Refused as creation_refused}

-- the queues of all slots are listed, once the broker is ready
abbrev pub IsListing : Brokered → Result Directory Refusal → Type 0
IsListing b (Ok places) = (b.recovery ≡ None) × (places ≡ b.directory)
IsListing b (Err refusal) = (refusal ≡ NotReady) × IsSome b.recovery

-- what a client was last told in the queue of a slot; or why there is no such slot
abbrev pub IsToldIn : Brokered → Client → Result SlotId Refusal → Result Told Refusal → Type 0
IsToldIn b client (Ok slot) result = result ≡ answer_at (λ w. Ok (told_to (told_in w.queue) client)) b slot.0 client
IsToldIn b client (Err refusal) result = result ≡ Err refusal

-- and in the queue of a name
pub record IsTelling (b : Brokered) (client : Client) (name : List ℕ) (result : Result Told Refusal) : Type 0 where
  pub place : Result SlotId Refusal
  pub placed : IsPlaced b name place
  pub is : IsToldIn b client place result

-- Why a creation is not begun. Busy: another one has not ended, or its caller has not seen that it was interrupted, or
-- there is no memory for its changes
abbrev pub IsWhyNotCreated : Brokered → List ℕ → Refusal → Type 0
IsWhyNotCreated b name BadName = IsName name → ⊥
IsWhyNotCreated b name NotReady = IsSome b.recovery
IsWhyNotCreated b name Busy = b.recovery ≡ None
IsWhyNotCreated b name Exists = (b.recovery ≡ None) × HasName b.directory name
IsWhyNotCreated b name DirectoryFull = (b.recovery ≡ None) × ((slot : ℕ) → IsFree b.directory slot → ⊥)
IsWhyNotCreated b name _ = ⊥

-- what became of a creation of a queue: it is in the slot, or was not begun. Of one that was interrupted nothing is said
abbrev pub IsCreationAt : Brokered → Queue → Created → Type 0
IsCreationAt b queue (created_queue slot) = HasQueue b.directory slot.0 queue
IsCreationAt b queue (creation_refused refusal) = IsWhyNotCreated b queue.name refusal
IsCreationAt b queue Interrupted = Unit {0}

-- what a request comes to: its kept reply, or a refusal; where it is to run, what the start of its call answers
abbrev pub begun_to : Result (Option Reply) Refusal → Result (Option Reply) Refusal → Result (Option Reply) Refusal
begun_to (Ok None) start = start
begun_to (Ok (Some reply)) start = Ok (Some reply)
begun_to (Err refusal) start = Err refusal

-- in the queue of a slot, where memory is refused for its event, or is not
abbrev pub request_outcome : Bool → Sessioned → ℕ → Client → Request → Result (Option Reply) Refusal
request_outcome full s slot client r =
    begun_to (answer_to s slot client r.number)
    (answer_at ((beginning client (number_or_zero r.number) r.call).answers full) s.broker slot client)

-- the queue of a slot refuses the request; memory for its event is refused only where its history has no room
pub record IsRefusedIn (s : Sessioned) (slot : ℕ) (client : Client) (r : Request) (refusal : Refusal) : Type 0 where
  pub full : Bool
  pub no_room : full ≡ true → room_at s.broker slot ≡ 0
  pub outcome : request_outcome full s slot client r ≡ Err refusal

-- or there is no such slot
abbrev pub IsRefusedWhere : Sessioned → Client → Request → Refusal → Result SlotId Refusal → Type 0
IsRefusedWhere s client r refusal (Ok slot) = IsRefusedIn s slot.0 client r refusal
IsRefusedWhere s client r refusal (Err why) = refusal ≡ why

-- the session refuses the client's request, in the queue of its name
pub record IsRefusedAt (s : Sessioned) (client : Client) (r : Request) (refusal : Refusal) : Type 0 where
  pub place : Result SlotId Refusal
  pub placed : IsPlaced s.broker r.name place
  pub refused : IsRefusedWhere s client r refusal place

-- a call is refused because its seat has an open one, or for want of memory for its entry, or as the session refuses it
abbrev pub IsCallRefused : List Entry → Sessioned → Client → Request → Refusal → Type 0
IsCallRefused list s client r refusal =
    ((refusal ≡ Busy) × (ends_open list ≡ true)) ⊎ (refusal ≡ NoMemory) ⊎ IsRefusedAt s client r refusal

-- where a call was made, or its reply was kept, this is so
abbrev pub IfMade : Answer → Type 0 → Type 0
IfMade (answer_reply reply) IsSo = IsSo
IfMade (Refused refusal) IsSo = Unit {0}
IfMade answer_interrupted IsSo = IsSo
IfMade Unfinished IsSo = IsSo

-- the histories ended and others began, of all queues
pub record IsRotatedBetween (before now : Sessioned) : Type 0 where
  pub session : Sessioned
  pub earlier : GoesOnLater before session
  pub rotated : IsRotated session.broker now.broker

-- the queue of the slot began in fresh records, and the broker is ready
pub record IsRenewedBetween (before now : Sessioned) (slot : ℕ) : Type 0 where
  pub session : Sessioned
  pub earlier : GoesOnLater before session
  pub renewed : IsRenewedOn session.broker now.broker slot
  pub ready : now.broker.recovery ≡ None

-- where a creation had begun, this is so
abbrev pub IfCreationBegun : Created → Type 0 → Type 0
IfCreationBegun (created_queue slot) IsSo = IsSo
IfCreationBegun (creation_refused refusal) IsSo = Unit {0}
IfCreationBegun Interrupted IsSo = IsSo

-- a queue of the name might be created at a session between these, where none has it yet
abbrev pub MightBeCreated : Sessioned → Sessioned → List ℕ → Type 0
MightBeCreated before now name = IsBetween before now (λ s. MayCreate s.broker name)

-- the histories of a session between these have just this list of the client's calls
abbrev pub HadCalled : Sessioned → Client → List Entry → Sessioned → Sessioned → Type 0
HadCalled first client list before now = IsBetween before now (IsMarkedBy first client list)

-- everything stopped, behind a session between these
abbrev pub HasStoppedSince : Sessioned → Sessioned → Type 0
HasStoppedSince before now = IsBetween before now (λ s. IsStopped s.broker now.broker)

-- the broker was down at a session between these
abbrev pub WasDown : Sessioned → Sessioned → Type 0
WasDown before now = IsBetween before now (λ s. IsSome s.broker.recovery)
