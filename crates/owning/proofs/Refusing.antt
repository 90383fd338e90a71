-- Which refusals the calls of a session get.
use Rattle.std.proofs.Common.{◌+◌, ℕ, true, false, Option, Some, None, Result, Ok, Err, refl}
use Rattle.std.specs.Prelude.{◌==◌, Bool, IfErr, IsTrue, is_some, nat_lt, if◌then◌else◌}
use Rattle.words.specs.declared.call.Call.{Call}
use Rattle.words.specs.declared.call.Client.{Client}
use Rattle.words.specs.declared.call.Kind.{Kind}
use Rattle.words.specs.declared.call.Kind.TheVariants.{Durable as durable_kind, Log as log_kind}
use Rattle.words.specs.declared.refusal.Refusal.{Refusal}
use Rattle.words.specs.declared.refusal.Refusal.TheVariants.{Busy, Gap, NoClient}
use Rattle.words.specs.declared.refusal.Refusal.TheVariants.{NoQueue, NotReady, Old, StaleNumber, WrongKind}
use Rattle.words.specs.declared.told.Outcome.{Outcome}
use Rattle.words.specs.declared.told.Outcome.TheVariants.{NotTaken, Taken}
use Rattle.words.specs.declared.told.Verdict.{Verdict}
use Rattle.interleave.specs.State.{State, start_result}
use Rattle.interleave.specs.Verdicts.{number_under_way}
use Rattle.interleave.proofs.Facts.{IsWhyUnstarted, why_unstarted}
use Rattle.named.specs.Brokers.{Brokered, admission, answer_at, answer_if, has_client, world_at}
use Rattle.named.specs.Brokers.{is_down as is_broker_down}
use Rattle.named.specs.Slots.{answered}
use Rattle.session.specs.Numbers.{by_last, by_number, by_outcome, missed}
use Rattle.session.specs.Requests.{answer_to, as_begun, is_kind, queue_admission, request_admission}
use Rattle.session.specs.Sessions.{Sessioned, kept_at}
use Rattle.workers.specs.Refusals.{is_call_refusal}

-- a refusal, if it is one, is of the set
abbrev pub Within : {T : Type 0} → (Refusal → Bool) → Result T Refusal → Type 0
Within set r = IfErr r (λ e. IsTrue (set e))

-- one of two
chosen : {T : Type 0} (set : Refusal → Bool) (b : Bool) (x y : Result T Refusal) → Within set x → Within set y
    → Within set (if b then x else y)
chosen set true x y left right = left
chosen set false x y left right = right

-- an answer that is given where nothing was refused before
if_within : {T : Type 0} (set : Refusal → Bool) (r : Result Unit Refusal) (answer : Result T Refusal) → Within set r
    → Within set answer → Within set (answer_if r answer)
if_within set (Ok u) answer why own = own
if_within set (Err refusal) answer why own = why

-- what the world of a slot answers
answered_within : {T : Type 0} (set : Refusal → Bool) (f : State → Result T Refusal) (world : Option State)
    → IsTrue (set NoQueue) → ((w : State) → Within set (f w)) → Within set (answered f world)
answered_within set f None closed own = closed
answered_within set f (Some w) closed own = own w

-- what a client's act is answered
pub act_within : {T : Type 0} (set : Refusal → Bool) (f : State → Result T Refusal) (b : Brokered) (slot : ℕ) (client : Client)
    → IsTrue (set NoClient) → IsTrue (set NotReady) → IsTrue (set NoQueue) → ((w : State) → Within set (f w))
    → Within set (answer_at f b slot client)
act_within set f b slot client none down closed own =
    if_within set (admission b client) (answered f (world_at b slot))
    (chosen set (has_client b client) _ (Err NoClient)
    (chosen set (is_broker_down b) (Err NotReady) (Ok tt) down tt) none)
    (answered_within set f (world_at b slot) closed own)

-- what a number comes to
missed_within : (last number : ℕ) → Within is_call_refusal (missed last number)
missed_within last number = chosen is_call_refusal (nat_lt number last) (Err Old) (Err Gap) refl refl

outcome_within : (outcome : Outcome) (last number : ℕ) → Within is_call_refusal (by_outcome outcome last number)
outcome_within (Taken reply) last number =
    chosen is_call_refusal (number == last) (Ok (Some reply)) _ tt
    (chosen is_call_refusal (number == last + 1) (Ok None) (missed last number) tt (missed_within last number))
outcome_within NotTaken last number =
    chosen is_call_refusal (number == last) (Ok None) (missed last number) tt (missed_within last number)

last_within : (last : Option Verdict) (number : ℕ) → Within is_call_refusal (by_last last number)
last_within (Some verdict) number = outcome_within verdict.outcome verdict.number number
last_within None number = chosen is_call_refusal (number == 1) (Ok None) (Err Gap) tt refl

number_within : (last : Option Verdict) (number : ℕ) → Within is_call_refusal (by_number last number)
number_within last number =
    chosen is_call_refusal (number == 0) (Err Old) (by_last last number) refl (last_within last number)

-- why a request is refused whatever its number
request_within : (kind : Kind) (b : Brokered) (slot : ℕ) (client : Client)
    → Within is_call_refusal (request_admission kind b slot client)
request_within kind b slot client =
    act_within is_call_refusal (queue_admission kind client) b slot client refl refl refl (λ w.
    chosen is_call_refusal (is_kind kind w.shape.kind) _ (Err WrongKind)
    (chosen is_call_refusal (is_some (number_under_way w client)) (Err Busy) (Ok tt) refl tt) refl)

-- what a request comes to
pub request_comes_within : (s : Sessioned) (slot : ℕ) (client : Client) (number : Option ℕ)
    → Within is_call_refusal (answer_to s slot client number)
request_comes_within s slot client (Some number) =
    if_within is_call_refusal (request_admission log_kind s.broker slot client) _
    (request_within log_kind s.broker slot client) (number_within (kept_at s slot client) number)
request_comes_within s slot client None =
    if_within is_call_refusal (request_admission durable_kind s.broker slot client) _
    (request_within durable_kind s.broker slot client) tt

-- a start
call_refused : (w : State) (client : Client) (number : ℕ) (refusal : Refusal)
    → IsWhyUnstarted w client number refusal → IsTrue (is_call_refusal refusal)
call_refused w client number NoClient why = refl
call_refused w client number Busy why = refl
call_refused w client number StaleNumber why = refl
call_refused w client number NoQueue why = refl
call_refused w client number WrongKind why = refl
call_refused w client number Old why = refl
call_refused w client number Gap why = refl
call_refused w client number _ why = why

pub start_within : (full : Bool) (w : State) (client : Client) (number : ℕ) (call : Call)
    → Within is_call_refusal (as_begun (start_result full w client number call))
start_within full w client number call =
    go (start_result full w client number call) (why_unstarted full w client number call)
  where
    go : (r : Result Unit Refusal) → IfErr r (IsWhyUnstarted w client number) → Within is_call_refusal (as_begun r)
    go (Ok u) why = tt
    go (Err refusal) why = call_refused w client number refusal why
