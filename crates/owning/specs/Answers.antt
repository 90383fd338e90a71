-- What each request makes of a session, and what it is answered.
use Rattle.std.specs.Prelude.{◌≡◌, ℕ, List, None, Option, Some, IsSome, Result, Ok, Err, nat_lt, if◌then◌else◌}
use Rattle.words.specs.declared.call.Call.TheVariants.{Enq, Deq}
use Rattle.words.specs.declared.call.Client.{Client}
use Rattle.words.specs.declared.call.Reply.{Reply}
use Rattle.words.specs.declared.refusal.Refusal.{Refusal}
use Rattle.words.specs.declared.refusal.Refusal.TheVariants.{NoClient, NoQueue, NotReady}
use Rattle.words.specs.declared.told.Told.{Told}
use Rattle.arena.specs.declared.broker.SlotId.{SlotId}
use Rattle.directory.specs.Directory.{Directory, IsNamed}
use Rattle.interleave.specs.Queue.{told_in, told_to}
use Rattle.interleave.specs.Verdicts.{taken_as}
use Rattle.named.specs.Brokers.{Brokered, answer_at}
use Rattle.session.specs.Keeping.{IsKeptNow}
use Rattle.session.specs.Requests.{IsServedBy, answer_to, number_or_zero}
use Rattle.session.specs.Sessions.{Sessioned}
use Rattle.wire.specs.declared.answer.Answer.{Answer}
use Rattle.wire.specs.declared.answer.Answer.TheVariants.{Crashed, Created, Queues, Ready, Refused, Reply as reply_answer, Stopping, Told as told_answer}
use Rattle.wire.specs.declared.request.Request.{Request}
use Rattle.wire.specs.declared.request.Request.TheVariants.{Create, Crash, List as list_request, Put, Recover, Stop, Take, Told as told_request}
use Rattle.desk.specs.declared.calls.Asked.{Asked}
use Rattle.owning.specs.Creating.{IsCreationOf}
use Rattle.owning.specs.Recovering.{IsCrash, IsRecovery}

-- the client of a number; from the number of clients on there is none
abbrev pub client_in : ℕ → ℕ → Result Client Refusal
client_in clients number = if nat_lt number clients then Ok (record { 0 = number }) else Err NoClient

-- a queue of this name is in the slot. A queue that is none, of a text that is no name, is in no slot
abbrev pub IsThere : Directory → Option (List ℕ) → ℕ → Type 0
IsThere places (Some name) slot = IsNamed places slot name
IsThere places None slot = ⊥

-- where a queue is found, or why it is not: the broker recovers, or there is no such queue
abbrev pub IsPlaced : Brokered → Option (List ℕ) → Result SlotId Refusal → Type 0
IsPlaced b queue (Ok slot) = (b.recovery ≡ None) × IsThere b.directory queue slot.0
IsPlaced b queue (Err NotReady) = IsSome b.recovery
IsPlaced b queue (Err NoQueue) = (b.recovery ≡ None) × ((slot : ℕ) → IsThere b.directory queue slot → ⊥)
IsPlaced b queue (Err _) = ⊥

-- a numbered call that was answered is its client's last; else what is kept stays
abbrev pub IsHeard : Sessioned → Sessioned → ℕ → Client → Option ℕ → Result Reply Refusal → Type 0
IsHeard old new slot client (Some number) (Ok reply) =
    IsKeptNow old.kept new.kept slot client.0 (Some (taken_as number reply))
IsHeard old new slot client (Some number) (Err refusal) = new.kept ≡ old.kept
IsHeard old new slot client None result = new.kept ≡ old.kept

-- a put or a take in the queue of a slot, which ran to its end, or whose reply was kept, or which was refused
pub record IsCalled (old new : Sessioned) (slot : ℕ) (client : Client) (asked : Asked) (result : Result Reply Refusal)
    : Type 0 where
  pub served : IsServedBy old new slot client (number_or_zero asked.number) asked.call result
      (answer_to old slot client asked.number)
  pub heard : IsHeard old new slot client asked.number result

-- where no slot is found nothing happens
abbrev pub IsCalledIn : Sessioned → Sessioned → Client → Asked → Result SlotId Refusal → Result Reply Refusal → Type 0
IsCalledIn old new client asked (Ok slot) result = IsCalled old new slot.0 client asked result
IsCalledIn old new client asked (Err refusal) result = (result ≡ Err refusal) × (new ≡ old)

pub record IsCall (old new : Sessioned) (client : Client) (asked : Asked) (result : Result Reply Refusal) : Type 0 where
  pub place : Result SlotId Refusal
  pub placed : IsPlaced old.broker asked.queue place
  pub made : IsCalledIn old new client asked place result

-- nor where there is no such client
abbrev pub IsCallBy : Sessioned → Sessioned → Result Client Refusal → Asked → Result Reply Refusal → Type 0
IsCallBy old new (Ok client) asked result = IsCall old new client asked result
IsCallBy old new (Err refusal) asked result = (result ≡ Err refusal) × (new ≡ old)

-- what a client was last told in the queue of a slot
abbrev pub IsToldIn : Brokered → Client → Result SlotId Refusal → Result Told Refusal → Type 0
IsToldIn b client (Ok slot) result =
    result ≡ answer_at (λ w. Ok (told_to (told_in w.queue) client)) b slot.0 client
IsToldIn b client (Err refusal) result = result ≡ Err refusal

pub record IsTelling (b : Brokered) (client : Client) (queue : Option (List ℕ)) (result : Result Told Refusal) : Type 0
  where
    pub place : Result SlotId Refusal
    pub placed : IsPlaced b queue place
    pub is : IsToldIn b client place result

abbrev pub IsTellingBy : Brokered → Result Client Refusal → Option (List ℕ) → Result Told Refusal → Type 0
IsTellingBy b (Ok client) queue result = IsTelling b client queue result
IsTellingBy b (Err refusal) queue result = result ≡ Err refusal

-- the queues of the slots, which are listed once the broker is ready
abbrev pub IsListing : Brokered → Result Directory Refusal → Type 0
IsListing b (Ok places) = (b.recovery ≡ None) × (places ≡ b.directory)
IsListing b (Err refusal) = (refusal ≡ NotReady) × IsSome b.recovery

-- the answer says what the session came to: what was done, or why it was refused
abbrev pub answer_as : {T : Type 0} → (T → Answer) → Result T Refusal → Answer
answer_as say (Ok done) = say done
answer_as say (Err refusal) = Refused refusal

pub record Says {T : Type 0} (say : T → Answer) (answer : Answer) (IsMade : Result T Refusal → Type 0) : Type 0 where
  pub result : Result T Refusal
  pub is : answer ≡ answer_as say result
  pub made : IsMade result

-- what a request makes of a session, and what it is answered
abbrev pub IsAnswered : Sessioned → Sessioned → Request → Answer → Type 0
IsAnswered old new (Create queue kind) answer = Says Created answer (IsCreationOf old new queue kind)
IsAnswered old new list_request answer = Says Queues answer (IsListing old.broker) × (new ≡ old)
IsAnswered old new (Put client queue value number) answer =
    Says reply_answer answer (IsCallBy old new (client_in old.broker.counts.clients client)
    (record { queue = queue; number = number; call = Enq value }))
IsAnswered old new (Take client queue number) answer =
    Says reply_answer answer (IsCallBy old new (client_in old.broker.counts.clients client)
    (record { queue = queue; number = number; call = Deq }))
IsAnswered old new (told_request client queue) answer =
    Says told_answer answer (IsTellingBy old.broker (client_in old.broker.counts.clients client) queue)
    × (new ≡ old)
IsAnswered old new Crash answer = Says (λ done. Crashed) answer (IsCrash old new)
IsAnswered old new Recover answer = Says (λ done. Ready) answer (IsRecovery old new)
IsAnswered old new Stop answer = (answer ≡ Stopping) × (new ≡ old)
