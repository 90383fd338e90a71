-- A client's request: when it is refused, and what it makes of the broker where it runs.
use Rattle.std.specs.Prelude.{◌≡◌, ◌+◌, ◌<◌, ◌≤◌, ◌⊎◌, ℕ, Bool, true, false, is_some, Option, Some, None, Result, Ok, Err, if◌then◌else◌}
use Rattle.words.specs.declared.call.Call.{Call}
use Rattle.words.specs.declared.call.Client.{Client}
use Rattle.words.specs.declared.call.Kind.{Kind}
use Rattle.words.specs.declared.call.Kind.TheVariants.{Durable as durable_kind, Log as log_kind}
use Rattle.words.specs.declared.call.Reply.{Reply}
use Rattle.words.specs.declared.limits.TheConstants.{MAX_CALL_NUMBER, MAX_STEPS_ALONE}
use Rattle.words.specs.declared.refusal.Refusal.{Refusal}
use Rattle.words.specs.declared.refusal.Refusal.TheVariants.{Busy, NoMemory, WrongKind}
use Rattle.words.specs.declared.told.Verdict.{Verdict}
use Rattle.interleave.specs.Rules.{Rule, stepping}
use Rattle.interleave.specs.State.{IsAnsweredAlone, IsStartable, State, after_alone, after_start, start_result}
use Rattle.interleave.specs.Verdicts.{number_under_way, taken_as}
use Rattle.named.specs.Acting.{IsActAt, IsSameBeside}
use Rattle.named.specs.Brokers.{Brokered, answer_at, answer_if, room_at, world_after, world_at}
use Rattle.session.specs.Numbers.{by_number}
use Rattle.session.specs.Sessions.{Sessioned, kept_at}
use Rattle.session.specs.declared.running.TheConstants.{ACTS_OF_A_CALL}

-- a queue takes requests of its own kind alone: with a number, if it is a log queue
abbrev pub is_kind : Kind → Kind → Bool
is_kind durable_kind durable_kind = true
is_kind log_kind log_kind = true
is_kind durable_kind log_kind = false
is_kind log_kind durable_kind = false

-- and from a client that has no call under way in it
abbrev pub queue_admission : Kind → Client → State → Result Unit Refusal
queue_admission kind client w =
    if is_kind kind w.shape.kind then (if is_some (number_under_way w client) then Err Busy else Ok tt)
    else Err WrongKind

-- why a request of this kind is refused whatever its number: the first reason that applies
abbrev pub request_admission : Kind → Brokered → ℕ → Client → Result Unit Refusal
request_admission kind b slot client = answer_at (queue_admission kind client) b slot client

-- what a numbered request comes to: a refusal, the kept reply, or, with none, a run
abbrev pub request_answer : Sessioned → ℕ → Client → ℕ → Result (Option Reply) Refusal
request_answer s slot client number =
    answer_if (request_admission log_kind s.broker slot client) (by_number (kept_at s slot client) number)

-- and one without a number
abbrev pub plain_answer : Sessioned → ℕ → Client → Result (Option Reply) Refusal
plain_answer s slot client = answer_if (request_admission durable_kind s.broker slot client) (Ok None)

abbrev pub answer_to : Sessioned → ℕ → Client → Option ℕ → Result (Option Reply) Refusal
answer_to s slot client (Some number) = request_answer s slot client number
answer_to s slot client None = plain_answer s slot client

-- a plain call has no number, and the broker is handed 0
abbrev pub number_or_zero : Option ℕ → ℕ
number_or_zero (Some number) = number
number_or_zero None = 0

-- what a start answers, as what a request does that has begun to run
abbrev pub as_begun : Result Unit Refusal → Result (Option Reply) Refusal
as_begun (Ok u) = Ok None
as_begun (Err refusal) = Err refusal

-- the rule of a request that begins to run
abbrev pub beginning : Client → ℕ → Call → Rule (Option Reply)
beginning client number call = record {
  leaves = λ full w. after_start full w client number call;
  answers = λ full w. as_begun (start_result full w client number call);
}

-- the client's call was started, or refused as a start is
pub record IsStarted (old new : Brokered) (slot : ℕ) (client : Client) (number : ℕ) (call : Call)
    (result : Result (Option Reply) Refusal) : Type 0 where
  pub act : IsActAt (beginning client number call) slot client old result new
  pub beside : IsSameBeside slot old new

-- what a request makes that comes to this: nothing, where it is refused or its reply is kept; else it is started
abbrev pub IsBegunBy : Sessioned → Sessioned → ℕ → Client → ℕ → Call → Result (Option Reply) Refusal
    → Result (Option Reply) Refusal → Type 0
IsBegunBy old new slot client number call result (Err refusal) = (result ≡ Err refusal) × (new ≡ old)
IsBegunBy old new slot client number call result (Ok (Some reply)) = (result ≡ Ok (Some reply)) × (new ≡ old)
IsBegunBy old new slot client number call result (Ok None) =
    IsStarted old.broker new.broker slot client number call result × (new.kept ≡ old.kept)

-- what a request makes, with its number or without one
abbrev pub IsRequestBegun
    : Sessioned → Sessioned → ℕ → Client → Option ℕ → Call → Result (Option Reply) Refusal → Type 0
IsRequestBegun old new slot client number call result =
    IsBegunBy old new slot client (number_or_zero number) call result (answer_to old slot client number)

-- a number that is to run, by what is kept, is one that the queue takes for a call, unless it is above the greatest
abbrev pub AreAdmittedTaken : Sessioned → Type 0
AreAdmittedTaken s =
    (slot : ℕ) (w : State) (client : Client) (number : ℕ) → world_at s.broker slot ≡ Some w
    → request_answer s slot client number ≡ Ok None → number ≤ MAX_CALL_NUMBER
    → IsStartable w client number number

-- the client's call was started, and went on alone until it answered
pub record IsServed (old new : Brokered) (slot : ℕ) (client : Client) (number : ℕ) (call : Call) (reply : Reply)
    : Type 0 where
  pub world : State
  pub was : world_at old slot ≡ Some world
  pub started : start_result false world client number call ≡ Ok tt
  pub steps : ℕ
  pub few : steps ≤ MAX_STEPS_ALONE
  pub answered : IsAnsweredAlone (after_start false world client number call) client steps reply
  pub is : world_at new slot ≡ Some (after_alone steps (after_start false world client number call) client)
  pub room : room_at old slot ≤ room_at new slot + ACTS_OF_A_CALL
  pub beside : IsSameBeside slot old new

-- none was: there was no memory for its acts, or its start was refused
abbrev pub IsUnserved : Brokered → Brokered → ℕ → Client → ℕ → Call → Refusal → Type 0
IsUnserved old new slot client number call refusal =
    ((refusal ≡ NoMemory) × (room_at old slot < ACTS_OF_A_CALL) × ((at : ℕ) → world_at new at ≡ world_at old at))
    ⊎ ((answer_at (λ w. start_result false w client number call) old slot client ≡ Err refusal)
    × (world_at new slot ≡ world_after (λ w. after_start false w client number call) old slot client))

abbrev pub IsRun : Brokered → Brokered → ℕ → Client → ℕ → Call → Result Reply Refusal → Type 0
IsRun old new slot client number call (Ok reply) = IsServed old new slot client number call reply
IsRun old new slot client number call (Err refusal) =
    IsUnserved old new slot client number call refusal × (room_at old slot ≤ room_at new slot)
    × IsSameBeside slot old new

-- what a request makes that runs to its end, if it comes to this
abbrev pub IsServedBy : Sessioned → Sessioned → ℕ → Client → ℕ → Call → Result Reply Refusal
    → Result (Option Reply) Refusal → Type 0
IsServedBy old new slot client number call result (Err refusal) = (result ≡ Err refusal) × (new ≡ old)
IsServedBy old new slot client number call result (Ok (Some reply)) = (result ≡ Ok reply) × (new ≡ old)
IsServedBy old new slot client number call result (Ok None) =
    IsRun old.broker new.broker slot client number call result

-- what a numbered request makes that runs to its end
abbrev pub IsRequestServed : Sessioned → Sessioned → ℕ → Client → ℕ → Call → Result Reply Refusal → Type 0
IsRequestServed old new slot client number call result =
    IsServedBy old new slot client number call result (request_answer old slot client number)

-- and one without a number
abbrev pub IsPlainServed : Sessioned → Sessioned → ℕ → Client → Call → Result Reply Refusal → Type 0
IsPlainServed old new slot client call result =
    IsServedBy old new slot client 0 call result (plain_answer old slot client)

-- the number of the call that a client of a log queue has under way; a durable queue's call has none
abbrev pub numbered : Kind → Option ℕ → Option ℕ
numbered log_kind number = number
numbered durable_kind number = None

abbrev pub call_number : Option State → Client → Option ℕ
call_number (Some w) client = numbered w.shape.kind (number_under_way w client)
call_number None client = None

-- a numbered call that answers is the client's last; else what is kept stays
abbrev pub last_after : Option ℕ → Result (Option Reply) Refusal → Option Verdict → Option Verdict
last_after (Some number) (Ok (Some reply)) last = Some (taken_as number reply)
last_after (Some number) (Ok None) last = last
last_after (Some number) (Err refusal) last = last
last_after None result last = last

-- a call made a step
pub record IsAdvanced (old new : Brokered) (slot : ℕ) (client : Client) (result : Result (Option Reply) Refusal)
    : Type 0 where
  pub act : IsActAt (stepping client) slot client old result new
  pub stays : result ≡ Ok None → room_at old slot ≤ room_at new slot
  pub beside : IsSameBeside slot old new
