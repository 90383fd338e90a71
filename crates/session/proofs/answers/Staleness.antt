-- A number that the table of numbers lets run is stale only where it is above the greatest number.
use Rattle.std.proofs.Common.{◌≡◌, inl, inr, ℕ, ◌+◌, ◌<◌, ◌≤◌, ◌==◌, Bool, true, false, if◌then◌else◌, is_some, Option, None, Some}
use Rattle.std.proofs.Common.{Result, Ok, Err, slice_index, slice_index_or, refl, sym, ap, ◌∙◌, subst, arith}
use Rattle.std.specs.Prelude.{nat_lt}
use Rattle.std.proofs.lemmas.Bool.{cases_lt, ltb-true}
use Rattle.std.proofs.lemmas.Bool.Decides.{nat_tests}
use Rattle.std.proofs.lemmas.Option.{slice_get-get_or}
use Rattle.words.specs.declared.call.Call.{Call}
use Rattle.words.specs.declared.call.Client.{Client}
use Rattle.words.specs.declared.call.Kind.{Kind}
use Rattle.words.specs.declared.call.Kind.TheVariants.{Durable as durable_kind, Log as log_kind}
use Rattle.words.specs.declared.call.Reply.{Reply}
use Rattle.words.specs.declared.limits.TheConstants.{MAX_CALL_NUMBER}
use Rattle.words.specs.declared.refusal.Refusal.{Refusal}
use Rattle.words.specs.declared.refusal.Refusal.TheVariants.{Busy, Gap, NoClient, NotReady, Old}
use Rattle.words.specs.declared.refusal.Refusal.TheVariants.{StaleNumber, WrongKind}
use Rattle.words.specs.declared.told.Outcome.{Outcome}
use Rattle.words.specs.declared.told.Outcome.TheVariants.{NotTaken, Taken}
use Rattle.words.specs.declared.told.Verdict.{Verdict}
use Rattle.interleave.specs.LogQueue.{is_stale}
use Rattle.protocol.specs.declared.UnderWay.{UnderWay}
use Rattle.interleave.specs.Calls.{is_no_memory}
use Rattle.interleave.specs.Holds.{Holds}
use Rattle.interleave.specs.Queue.{number_check}
use Rattle.interleave.specs.Ranges.{IsOfKind}
use Rattle.interleave.specs.State.{IsStartable, State, start_result}
use Rattle.interleave.specs.Verdicts.{IsIdle, floor_in, number_of_call, number_under_way}
use Rattle.interleave.specs.declared.queue.Queue.{Queue}
use Rattle.interleave.specs.declared.queue.Queue.TheVariants.{Durable, Log}
use Rattle.interleave.proofs.Facts.{stale_start}
use Rattle.named.specs.Brokers.{Brokered, admission, answer_if, has_client, world_at}
use Rattle.named.specs.Slots.{answered}
use Rattle.named.specs.declared.recovery.BrokerRecovery.{BrokerRecovery}
use Rattle.named.proofs.Facts.{some_is}
use Rattle.session.specs.Numbers.{by_last, by_number, by_outcome, missed}
use Rattle.session.specs.Promises.{KeepsNumbers}
use Rattle.session.specs.Requests.{IsStarted, IsUnserved, answer_to, as_begun, is_kind, number_or_zero}
use Rattle.session.specs.Requests.{queue_admission, request_admission, request_answer}
use Rattle.session.specs.Sessions.{Sessioned, kept_at}
use Rattle.session.proofs.calls.SlotCalls.{IsAnsweredAt, admitted_has, answered_at}
use Rattle.session.proofs.answers.NextNumbers.{answer_runs, runs_above_floor}
use Rattle.session.proofs.calls.Admissions.{open_answer}
use Rattle.session.proofs.calls.Requests.{admitted_kind, if_answered, runs_admitted}
use Rattle.session.proofs.brokers.Worlds.{clients_there, holds_there, up_there}

-- a number above the floor, and not above the greatest, is not stale
fresh : (floor number : ℕ) → floor < number → number ≤ MAX_CALL_NUMBER → is_stale floor number ≡ false
fresh floor number above few = go (is_stale floor number) refl
  where
    go : (b : Bool) → is_stale floor number ≡ b → b ≡ false
    go false is = refl
    go true is = absurd (grind (arith, nat_tests, is, above, few))

checked : (queue : Queue) (client : Client) (number : ℕ) → IsOfKind log_kind queue → floor_in queue client < number
    → number ≤ MAX_CALL_NUMBER → number_check queue client number ≡ Ok number
checked (Durable told) client number kind above few = absurd kind
checked (Log clients) client number kind above few =
    ap (λ (b : Bool). let r : Result ℕ Refusal = if b then Err StaleNumber else Ok number in r)
    (fresh (slice_index clients.floors client.0) number above few)

-- a client that has no call under way
admitted_idle : (client : Client) (w : State) → queue_admission log_kind client w ≡ Ok tt → IsIdle w client
admitted_idle client w is = go (is_kind log_kind w.shape.kind) (slice_index_or w.calls client.0 None) refl is
  where
    go : (a : Bool) (c : Option UnderWay) → slice_index_or w.calls client.0 None ≡ c
        → (let r : Result Unit Refusal =
        if a then (if is_some (number_of_call c) then Err Busy else Ok tt) else Err WrongKind in r) ≡ Ok tt
        → IsIdle w client
    go false c at e = absurd (cc (e))
    go true None at e = at
    go true (Some u) at e = absurd (cc (e))

-- what a start refuses, as a request does
begun_stale : (r : Result Unit Refusal) → as_begun r ≡ Err StaleNumber → r ≡ Err StaleNumber
begun_stale (Ok u) e = absurd (cc (e))
begun_stale (Err refusal) e = cc (e)

module _ (s : Sessioned) (keeps : KeepsNumbers s) (slot : ℕ) (client : Client) (number : ℕ)
    (runs : request_answer s slot client number ≡ Ok None) where
  abbrev at : IsAnsweredAt (queue_admission log_kind client) s.broker slot client tt
  at = answered_at (queue_admission log_kind client) s.broker slot client tt (runs_admitted s slot client number runs)

  abbrev w : State
  w = at.world

  holds : Holds w
  holds = holds_there s.broker keeps.broker.well slot w at.here

  log : w.shape.kind ≡ log_kind
  log = admitted_kind log_kind client w at.says

  few : client.0 < w.shape.clients
  few =
      let below = ltb-true client.0 s.broker.counts.clients (admitted_has s.broker client at.admitted) in
      omega (arith, below, clients_there s.broker keeps.broker.well slot w at.here)

  idle : IsIdle w client
  idle = admitted_idle client w at.says

  up : w.recovery ≡ None
  up = up_there s.broker keeps.broker.well slot w at.here at.up

  above : floor_in w.queue client < number
  above =
      let kept = keeps.kept slot w client at.up at.here log few idle in
      let over = runs_above_floor (kept_at s slot client) number
      (answer_runs (request_admission log_kind s.broker slot client) (by_number (kept_at s slot client) number) runs) in
      omega (arith, over, kept.floor)

  taken : number ≤ MAX_CALL_NUMBER → number_check w.queue client number ≡ Ok number
  taken = checked w.queue client number (subst (λ (k : Kind). IsOfKind k w.queue) log holds.kind) above

  -- the queue takes it for a call
  pub accepted : (there : State) → world_at s.broker slot ≡ Some there → number ≤ MAX_CALL_NUMBER
      → IsStartable there client number number
  accepted there here least =
      subst (λ (v : State). IsStartable v client number number) (some_is (world_at s.broker slot) w there at.here here)
      (record {
        up = ap is_some up;
        idle = slice_get-get_or w.calls client.0 None (omega (arith, few, holds.safe.clients))
            ∙ ap (λ (c : Option UnderWay). Some c) idle;
        taken = taken least;
      })

  -- so a start that says that it is stale says that it is above the greatest
  above_greatest : (full : Bool) (call : Call) → start_result full w client number call ≡ Err StaleNumber
      → MAX_CALL_NUMBER < number
  above_greatest full call is = elim (cases_lt MAX_CALL_NUMBER number) [
    | inl lt ↦ lt
    | inr least ↦ absurd (cc (taken (omega (arith, least)), stale_start full w client number call is))
  ]

  -- a request that runs, and is refused so
  pub unserved_above : (new : Brokered) (call : Call) → IsUnserved s.broker new slot client number call StaleNumber
      → MAX_CALL_NUMBER < number
  unserved_above new call (inl none) = absurd (cc (none.0))
  unserved_above new call (inr refused) =
      above_greatest false call
      (sym (open_answer (λ v. start_result false v client number call) s.broker slot client
      (record { world = w; here = at.here; admitted = at.admitted })) ∙ refused.0)

  -- one that is only started, and is refused so
  started_above : (new : Brokered) (call : Call) (result : Result (Option Reply) Refusal)
      → IsStarted s.broker new slot client number call result → result ≡ Err StaleNumber → MAX_CALL_NUMBER < number
  started_above new call result made is =
      above_greatest (is_no_memory result) call
      (begun_stale (start_result (is_no_memory result) w client number call)
      (sym (open_answer (λ v. as_begun (start_result (is_no_memory result) v client number call)) s.broker slot client
      (record { world = w; here = at.here; admitted = at.admitted })) ∙ sym made.act.answers ∙ is))

-- no start of a durable queue is refused so
durable_start : (full : Bool) (w : State) (client : Client) (call : Call) → w.shape.kind ≡ durable_kind
    → IsOfKind w.shape.kind w.queue → start_result full w client 0 call ≡ Err StaleNumber → ⊥
durable_start full w client call kind is stale =
    go w.queue (subst (λ (k : Kind). IsOfKind k w.queue) kind is) (stale_start full w client 0 call stale)
  where
    go : (queue : Queue) → IsOfKind durable_kind queue → number_check queue client 0 ≡ Err StaleNumber → ⊥
    go (Log clients) its e = its
    go (Durable told) its e = absurd (cc (e))

-- a request that is only started, with a number or without one
pub begun_above : (s : Sessioned) → KeepsNumbers s → (slot : ℕ) (client : Client) (number : Option ℕ)
    → answer_to s slot client number ≡ Ok None → (new : Brokered) (call : Call) (result : Result (Option Reply) Refusal)
    → IsStarted s.broker new slot client (number_or_zero number) call result → result ≡ Err StaleNumber
    → MAX_CALL_NUMBER < number_or_zero number
begun_above s keeps slot client (Some number) runs new call result made is =
    started_above s keeps slot client number runs new call result made is
begun_above s keeps slot client None runs new call result made is =
    let at : IsAnsweredAt (queue_admission durable_kind client) s.broker slot client tt =
    answered_at (queue_admission durable_kind client) s.broker slot client tt
    (if_answered (request_admission durable_kind s.broker slot client) (Ok None) None runs) in
    absurd (durable_start (is_no_memory result) at.world client call (admitted_kind durable_kind client at.world at.says)
    (holds_there s.broker keeps.broker.well slot at.world at.here).kind
    (begun_stale (start_result (is_no_memory result) at.world client 0 call)
    (sym (open_answer (λ v. as_begun (start_result (is_no_memory result) v client 0 call)) s.broker slot client
    (record { world = at.world; here = at.here; admitted = at.admitted })) ∙ sym made.act.answers ∙ is)))

-- no request is refused so that does not run: by its client and its queue
admission_says : (b : Brokered) (client : Client) → admission b client ≡ Err StaleNumber → ⊥
admission_says b client is = go (has_client b client) b.recovery is
  where
    go : (has : Bool) (recovery : Option BrokerRecovery) → (let r : Result Unit Refusal =
        if has then (if is_some recovery then Err NotReady else Ok tt) else Err NoClient in r) ≡ Err StaleNumber → ⊥
    go false recovery e = absurd (cc (e))
    go true None e = absurd (cc (e))
    go true (Some r) e = absurd (cc (e))

queue_says : (kind : Kind) (client : Client) (o : Option State)
    → answered (queue_admission kind client) o ≡ Err StaleNumber → ⊥
queue_says kind client None is = absurd (cc (is))
queue_says kind client (Some w) is = go (is_kind kind w.shape.kind) (is_some (number_under_way w client)) is
  where
    go : (a b : Bool) → (let r : Result Unit Refusal = if a then (if b then Err Busy else Ok tt) else Err WrongKind in r)
        ≡ Err StaleNumber → ⊥
    go false b e = absurd (cc (e))
    go true true e = absurd (cc (e))
    go true false e = absurd (cc (e))

pub admission_other : (kind : Kind) (b : Brokered) (slot : ℕ) (client : Client)
    → request_admission kind b slot client ≡ Err StaleNumber → ⊥
admission_other kind b slot client is = go (admission b client) refl is
  where
    go : (r : Result Unit Refusal) → admission b client ≡ r
        → answer_if r (answered (queue_admission kind client) (world_at b slot)) ≡ Err StaleNumber → ⊥
    go (Ok u) e answer = queue_says kind client (world_at b slot) answer
    go (Err refusal) e answer = admission_says b client (e ∙ answer)

-- nor by its number
missed_says : (last number : ℕ) → missed last number ≡ Err StaleNumber → ⊥
missed_says last number is = go (nat_lt number last) is
  where
    go : (b : Bool) → (let r : Result (Option Reply) Refusal = if b then Err Old else Err Gap in r) ≡ Err StaleNumber → ⊥
    go true e = absurd (cc (e))
    go false e = absurd (cc (e))

number_says : (last : Option Verdict) (number : ℕ) → by_number last number ≡ Err StaleNumber → ⊥
number_says last number is = go (number == 0) is
  where
    by_reply_says : (reply : Reply) (kept : ℕ) (a b : Bool) → (let r : Result (Option Reply) Refusal =
        if a then Ok (Some reply) else (if b then Ok None else missed kept number) in r) ≡ Err StaleNumber → ⊥
    by_reply_says reply kept true b e = absurd (cc (e))
    by_reply_says reply kept false true e = absurd (cc (e))
    by_reply_says reply kept false false e = missed_says kept number e

    by_none_says : (kept : ℕ) (a : Bool) → (let r : Result (Option Reply) Refusal =
        if a then Ok None else missed kept number in r) ≡ Err StaleNumber → ⊥
    by_none_says kept true e = absurd (cc (e))
    by_none_says kept false e = missed_says kept number e

    by_outcome_says : (outcome : Outcome) (kept : ℕ) → by_outcome outcome kept number ≡ Err StaleNumber → ⊥
    by_outcome_says (Taken reply) kept e = by_reply_says reply kept (number == kept) (number == kept + 1) e
    by_outcome_says NotTaken kept e = by_none_says kept (number == kept) e

    first_says : (a : Bool) → (let r : Result (Option Reply) Refusal = if a then Ok None else Err Gap in r)
        ≡ Err StaleNumber → ⊥
    first_says true e = absurd (cc (e))
    first_says false e = absurd (cc (e))

    last_says : (v : Option Verdict) → by_last v number ≡ Err StaleNumber → ⊥
    last_says (Some verdict) e = by_outcome_says verdict.outcome verdict.number e
    last_says None e = first_says (number == 1) e

    go : (a : Bool) → (let r : Result (Option Reply) Refusal = if a then Err Old else by_last last number in r)
        ≡ Err StaleNumber → ⊥
    go true e = absurd (cc (e))
    go false e = last_says last e

pub answer_other : (s : Sessioned) (slot : ℕ) (client : Client) (number : ℕ)
    → request_answer s slot client number ≡ Err StaleNumber → ⊥
answer_other s slot client number is = go (request_admission log_kind s.broker slot client) refl is
  where
    go : (r : Result Unit Refusal) → request_admission log_kind s.broker slot client ≡ r
        → answer_if r (by_number (kept_at s slot client) number) ≡ Err StaleNumber → ⊥
    go (Ok u) e answer = number_says (kept_at s slot client) number answer
    go (Err refusal) e answer =
        let same : refusal ≡ StaleNumber = cc (answer) in
        admission_other log_kind s.broker slot client (e ∙ ap (λ (x : Refusal). Err x) same)

-- with a number or without one
pub answer_to_other : (s : Sessioned) (slot : ℕ) (client : Client) (number : Option ℕ)
    → answer_to s slot client number ≡ Err StaleNumber → ⊥
answer_to_other s slot client (Some number) is = answer_other s slot client number is
answer_to_other s slot client None is = go (request_admission durable_kind s.broker slot client) refl is
  where
    go : (r : Result Unit Refusal) → request_admission durable_kind s.broker slot client ≡ r
        → (let a : Result (Option Reply) Refusal = answer_if r (Ok None) in a) ≡ Err StaleNumber → ⊥
    go (Ok u) e answer = absurd (cc (answer))
    go (Err refusal) e answer =
        let same : refusal ≡ StaleNumber = cc (answer) in
        admission_other durable_kind s.broker slot client (e ∙ ap (λ (x : Refusal). Err x) same)
