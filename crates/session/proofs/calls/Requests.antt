-- A session stays right over its clients' requests, and each reply is that of its number.
use Rattle.std.proofs.Common.{◌≡◌, ◌≢◌, inl, inr, ℕ, ◌<◌, ◌≤◌, ◌+◌, ◌==◌, Bool, true, false, is_some, if◌then◌else◌, List, Option, Some, None, Result, Ok, Err, refl, sym, ap, subst, ◌∙◌, arith}
use Rattle.std.proofs.lemmas.Bool.{eqb-true, ltb-true}
use Rattle.std.proofs.lemmas.Option.{slice_get_within}
use Rattle.words.specs.declared.call.Call.{Call}
use Rattle.words.specs.declared.call.Client.{Client}
use Rattle.words.specs.declared.call.Kind.{Kind}
use Rattle.words.specs.declared.call.Kind.TheVariants.{Durable as durable_kind, Log as log_kind}
use Rattle.words.specs.declared.call.Reply.{Reply}
use Rattle.words.specs.declared.refusal.Refusal.{Refusal}
use Rattle.words.specs.declared.refusal.Refusal.TheVariants.{Busy, Gap, Old, WrongKind}
use Rattle.words.specs.declared.told.Outcome.{Outcome}
use Rattle.words.specs.declared.told.Outcome.TheVariants.{NotTaken, Taken}
use Rattle.words.specs.declared.told.Verdict.{Verdict}
use Rattle.arena.specs.Shape.{Shape}
use Rattle.protocol.specs.Machine.{FitsCall}
use Rattle.interleave.specs.Calls.{is_no_memory}
use Rattle.interleave.specs.Holds.{Holds}
use Rattle.interleave.specs.State.{State, after_alone, after_start}
use Rattle.interleave.specs.Verdicts.{number_under_way, taken_as}
use Rattle.interleave.proofs.Facts.{answered_alone, holds_after_start}
use Rattle.named.specs.Brokers.{Brokered, IsWell, answer_if, room_at, world_after, world_at}
use Rattle.named.proofs.Facts.{alone_alike, some_is, start_alike}
use Rattle.session.specs.Keeping.{IsKeptNow}
use Rattle.session.specs.Numbers.{by_last, by_number, by_outcome, by_reply, missed}
use Rattle.session.specs.Promises.{IsReplyAt, IsReplyIfNumbered, IsReplyIn}
use Rattle.session.specs.Requests.{IsRun, IsServed, IsStarted, IsUnserved, answer_to, is_kind, queue_admission}
use Rattle.session.specs.Requests.{request_admission, request_answer}
use Rattle.session.specs.Sessions.{IsRight, IsSlotRight, Sessioned, is_up, kept_at, kept_in}
use Rattle.named.specs.Acting.{IsSameBeside}
use Rattle.session.proofs.calls.Sessions.{kept_beside, kept_new, right_beside}
use Rattle.session.proofs.calls.SlotCalls.{IsAnsweredAt, admitted_has, admitted_up, answered_at, right_by_client}
use Rattle.session.proofs.calls.SlotCalls.{right_if_durable, right_served, right_started, up_is}
use Rattle.session.proofs.answers.NextNumbers.{misses}
use Rattle.session.proofs.calls.Runs.{begun_by}
use Rattle.session.proofs.brokers.Worlds.{clients_there, holds_there, up_there}

-- a number that runs, or is refused, has no reply
runs_or_missed : (b : Bool) (last number : ℕ) (reply : Reply)
    → (let r : Result (Option Reply) Refusal = if b then Ok None else missed last number in r) ≡ Ok (Some reply) → ⊥
runs_or_missed true last number reply e = cc
runs_or_missed false last number reply e = misses last number (Some reply) e

-- the kept reply is that of the last number, and has it
kept_by_reply : (last number : ℕ) (own reply : Reply) → by_reply own last number ≡ Ok (Some reply)
    → (last ≡ number) × (own ≡ reply)
kept_by_reply last number own reply is = go (number == last) refl is
  where
    go : (b : Bool) → (number == last) ≡ b → (let r : Result (Option Reply) Refusal = if b then Ok (Some own)
        else (if number == last + 1 then Ok None else missed last number) in r) ≡ Ok (Some reply)
        → (last ≡ number) × (own ≡ reply)
    go true same e = (sym (eqb-true number last same), cc (e))
    go false same e = absurd (runs_or_missed (number == last + 1) last number reply e)

-- a start
module _ (old new : Brokered) (slot : ℕ) (client : Client) (number : ℕ) (call : Call)
    (kept : List (List (Option Verdict))) where
  abbrev before : Sessioned
  before = record { broker = old; kept = kept }

  abbrev after : Sessioned
  after = record { broker = new; kept = kept }

  begun_right : (full : Bool) → IsRight before → IsWell new → IsSameBeside slot old new
      → world_at new slot ≡ world_after (λ w. after_start full w client number call) old slot client → IsRight after
  begun_right full right well others world =
      right_beside old new slot kept kept well others (λ at apart c. refl) right
      (right_by_client (λ w. after_start full w client number call) old new slot client (kept_in kept slot) world
      (λ w here admitted r.
      right_started full w client number call (holds_there old right.well slot w here)
      (up_there old right.well slot w here (admitted_up old client admitted)) (kept_in kept slot) r)
      (right.slots slot))

  pub started_right : (result : Result (Option Reply) Refusal) → IsRight before → IsWell new
      → IsStarted old new slot client number call result → IsRight after
  started_right result right well made = begun_right (is_no_memory result) right well made.beside made.act.world

  -- nothing changed but room
  same_right : IsRight before → IsWell new → IsSameBeside slot old new → world_at new slot ≡ world_at old slot
      → IsRight after
  same_right right well others same =
      right_beside old new slot kept kept well others (λ at apart c. refl) right
      (subst (λ (o : Option State). IsSlotRight (is_up old) o (kept_in kept slot)) (sym same) (right.slots slot))

  pub unserved_right : (refusal : Refusal) → IsRight before → IsWell new
      → IsUnserved old new slot client number call refusal × (room_at old slot ≤ room_at new slot)
      × IsSameBeside slot old new → IsRight after
  unserved_right refusal right well (inl none, room, others) = same_right right well others (none.2 slot)
  unserved_right refusal right well (inr refused, room, others) = begun_right false right well others refused.1

-- a call that ran to its end
module _ (old new : Brokered) (slot : ℕ) (client : Client) (number : ℕ) (call : Call) (reply : Reply)
    (was : List (List (Option Verdict))) (right : IsRight (record { broker = old; kept = was })) (well : IsWell new)
    (up : old.recovery ≡ None) (fits : FitsCall call) (made : IsServed old new slot client number call reply) where
  abbrev w : State
  w = made.world

  abbrev begun : State
  begun = after_start false w client number call

  abbrev done : State
  done = after_alone made.steps begun client

  holds : Holds w
  holds = holds_there old right.well slot w made.was

  started : Holds begun
  started = holds_after_start false w client number call holds fits

  few : client.0 < 16
  few =
      let idle = (begun_by w client number call made.started).startable.idle in
      omega (arith, slice_get_within w.calls client.0 None idle, holds.safe.clients, holds.safe.few)

  alike : (done.shape ≡ w.shape) × (done.recovery ≡ w.recovery)
  alike =
      let first = start_alike false w client number call in
      let alone = alone_alike made.steps begun client in
      (alone.0 ∙ first.0, alone.1 ∙ first.1)

  was_right : IsSlotRight true (Some w) (kept_in was slot)
  was_right =
      subst (λ (b : Bool). IsSlotRight b (Some w) (kept_in was slot)) (up_is old up)
      (subst (λ (o : Option State). IsSlotRight (is_up old) o (kept_in was slot)) made.was (right.slots slot))

  here_right : (is : List (List (Option Verdict)))
      → ((at : ℕ) → at ≢ slot → (c : ℕ) → kept_in is at c ≡ kept_in was at c)
      → IsSlotRight true (Some done) (kept_in is slot) → IsRight (record { broker = new; kept = is })
  here_right is beside now =
      right_beside old new slot was is well made.beside beside right
      (subst (λ (b : Bool). IsSlotRight b (world_at new slot) (kept_in is slot)) (sym (up_is old up))
      (subst (λ (o : Option State). IsSlotRight true o (kept_in is slot)) (sym made.is) now))

  durable_right : w.shape.kind ≡ durable_kind → (is : ℕ → Option Verdict) → IsSlotRight true (Some done) is
  durable_right e is =
      right_if_durable true done is (λ log. absurd (cc (e, ap (λ (s : Shape). s.kind) (sym alike.0) ∙ log)))

  -- in a log queue its reply is kept
  pub served_right : (is : List (List (Option Verdict)))
      → IsKeptNow was is slot client.0 (Some (taken_as number reply)) → IsRight (record { broker = new; kept = is })
  served_right is kept =
      here_right is (kept_beside old new slot was is client _ kept) (by_kind w.shape.kind refl)
    where
      by_kind : (kind : Kind) → w.shape.kind ≡ kind → IsSlotRight true (Some done) (kept_in is slot)
      by_kind durable_kind e = durable_right e (kept_in is slot)
      by_kind log_kind e =
          right_served w client number call made.steps reply holds started (holds_there new well slot done made.is)
          (up_there old right.well slot w made.was up) e few made.started made.answered (kept_in was slot) (kept_in is slot)
          (kept_new old new slot was is client _ kept) was_right

  -- in a durable one nothing is
  pub plain_right : w.shape.kind ≡ durable_kind → IsRight (record { broker = new; kept = was })
  plain_right durable = here_right was (λ at apart c. refl) (durable_right durable (kept_in was slot))

  -- its reply is that of its number
  pub served_reply : (is : List (List (Option Verdict))) → w.shape.kind ≡ log_kind
      → IsReplyAt (record { broker = new; kept = is }) slot client number reply
  served_reply is log =
      subst (λ (o : Option State). IsReplyIn o client number reply) (sym made.is)
      (answered_alone false w client number call holds log few started made.started made.steps reply made.answered).reply_of

-- what is kept where a number's reply is
pub kept_by_number : (last : Option Verdict) (number : ℕ) (reply : Reply) → by_number last number ≡ Ok (Some reply)
    → last ≡ Some (taken_as number reply)
kept_by_number last number reply is = go (number == 0) last is
  where
    by_verdict : (verdict : Verdict) (outcome : Outcome) → verdict.outcome ≡ outcome
        → by_outcome outcome verdict.number number ≡ Ok (Some reply) → verdict ≡ taken_as number reply
    by_verdict verdict (Taken own) e answer =
        let same = kept_by_reply verdict.number number own reply answer in
        ap (λ (n : ℕ). let v : Verdict = record { number = n; outcome = verdict.outcome } in v) same.0
        ∙ ap (λ (o : Outcome). let v : Verdict = record { number = number; outcome = o } in v)
        (e ∙ ap (λ (r : Reply). Taken r) same.1)
    by_verdict verdict NotTaken e answer = absurd (runs_or_missed (number == verdict.number) verdict.number number reply answer)

    first : (b : Bool) → (let r : Result (Option Reply) Refusal = if b then Ok None else Err Gap in r) ≡ Ok (Some reply) → ⊥
    first true e = cc
    first false e = cc

    go : (zero_number : Bool) (o : Option Verdict)
        → (let r : Result (Option Reply) Refusal = if zero_number then Err Old else by_last o number in r) ≡ Ok (Some reply)
        → o ≡ Some (taken_as number reply)
    go true o e = absurd (cc (e))
    go false None e = absurd (first (number == 1) e)
    go false (Some verdict) e = ap (λ (v : Verdict). Some v) (by_verdict verdict verdict.outcome refl e)

-- a client that is admitted to a queue of a kind: it is there, and the queue is of the kind
pub admitted_kind : (kind : Kind) (client : Client) (w : State) → queue_admission kind client w ≡ Ok tt
    → w.shape.kind ≡ kind
admitted_kind kind client w is = go kind w.shape.kind is
  where
    go : (k l : Kind) → (let r : Result Unit Refusal = if is_kind k l
        then (if is_some (number_under_way w client) then Err Busy else Ok tt) else Err WrongKind in r) ≡ Ok tt → l ≡ k
    go durable_kind durable_kind e = refl
    go log_kind log_kind e = refl
    go durable_kind log_kind e = absurd (cc (e))
    go log_kind durable_kind e = absurd (cc (e))

-- the reply that is kept of a number is its
pub kept_reply : (s : Sessioned) → IsRight s → (slot : ℕ) (client : Client) (number : ℕ) (reply : Reply)
    → request_answer s slot client number ≡ Ok (Some reply) → IsReplyAt s slot client number reply
kept_reply s right slot client number reply is = go (request_admission log_kind s.broker slot client) refl is
  where
    found : request_admission log_kind s.broker slot client ≡ Ok tt
        → by_number (kept_at s slot client) number ≡ Ok (Some reply) → IsReplyAt s slot client number reply
    found admitted by =
        let at : IsAnsweredAt (queue_admission log_kind client) s.broker slot client tt =
        answered_at (queue_admission log_kind client) s.broker slot client tt admitted in
        let log : at.world.shape.kind ≡ log_kind = admitted_kind log_kind client at.world at.says in
        let below : client.0 < s.broker.counts.clients = ltb-true client.0 s.broker.counts.clients (admitted_has s.broker client at.admitted) in
        let few : client.0 < at.world.shape.clients =
        omega (arith, below, clients_there s.broker right.well slot at.world at.here) in
        let verdicts : IsSlotRight (is_up s.broker) (Some at.world) (kept_in s.kept slot) =
        subst (λ (o : Option State). IsSlotRight (is_up s.broker) o (kept_in s.kept slot)) at.here (right.slots slot) in
        subst (λ (o : Option State). IsReplyIn o client number reply) (sym at.here)
        (((verdicts log).recalled client few).reply number reply (kept_by_number (kept_at s slot client) number reply by))

    go : (r : Result Unit Refusal) → request_admission log_kind s.broker slot client ≡ r
        → answer_if r (by_number (kept_at s slot client) number) ≡ Ok (Some reply) → IsReplyAt s slot client number reply
    go (Err refusal) e answer = absurd (cc (answer))
    go (Ok u) e answer = found e answer

-- with a number or without one
pub answered_reply : (s : Sessioned) → IsRight s → (slot : ℕ) (client : Client) (number : Option ℕ) (reply : Reply)
    → answer_to s slot client number ≡ Ok (Some reply) → IsReplyIfNumbered s slot client number reply
answered_reply s right slot client (Some number) reply is = kept_reply s right slot client number reply is
answered_reply s right slot client None reply is = tt

-- a request that is to run was admitted
pub if_answered : {T : Type 0} (r : Result Unit Refusal) (a : Result T Refusal) (x : T) → answer_if r a ≡ Ok x → r ≡ Ok tt
if_answered (Ok u) a x e = refl
if_answered (Err refusal) a x e = absurd (cc (e))

pub runs_admitted : (s : Sessioned) (slot : ℕ) (client : Client) (number : ℕ)
    → request_answer s slot client number ≡ Ok None → request_admission log_kind s.broker slot client ≡ Ok tt
runs_admitted s slot client number is =
    if_answered (request_admission log_kind s.broker slot client) (by_number (kept_at s slot client) number) None is

-- the queue that serves it is of its kind
served_kind : (kind : Kind) (b : Brokered) (slot : ℕ) (client : Client) (w : State)
    → request_admission kind b slot client ≡ Ok tt → world_at b slot ≡ Some w → w.shape.kind ≡ kind
served_kind kind b slot client w admitted here =
    let at : IsAnsweredAt (queue_admission kind client) b slot client tt =
    answered_at (queue_admission kind client) b slot client tt admitted in
    let same : at.world ≡ w = some_is (world_at b slot) at.world w at.here here in
    ap (λ (v : State). v.shape.kind) (sym same) ∙ admitted_kind kind client at.world at.says

module _ (old new : Brokered) (slot : ℕ) (client : Client) (call : Call) (was : List (List (Option Verdict)))
    (right : IsRight (record { broker = old; kept = was })) (well : IsWell new) (fits : FitsCall call) where
  admitted_is_up : (kind : Kind) → request_admission kind old slot client ≡ Ok tt → old.recovery ≡ None
  admitted_is_up kind admitted = (answered_at (queue_admission kind client) old slot client tt admitted).up

  -- a call without a number
  pub plain_run_right : request_admission durable_kind old slot client ≡ Ok tt → (result : Result Reply Refusal)
      → IsRun old new slot client 0 call result → IsRight (record { broker = new; kept = was })
  plain_run_right admitted (Err refusal) made = unserved_right old new slot client 0 call was refusal right well made
  plain_run_right admitted (Ok reply) made =
      plain_right old new slot client 0 call reply was right well (admitted_is_up durable_kind admitted) fits made
      (served_kind durable_kind old slot client made.world admitted made.was)

  -- one with a number
  pub run_right : (number : ℕ) (reply : Reply) (is : List (List (Option Verdict)))
      → request_admission log_kind old slot client ≡ Ok tt → IsServed old new slot client number call reply
      → IsKeptNow was is slot client.0 (Some (taken_as number reply)) → IsRight (record { broker = new; kept = is })
  run_right number reply is admitted made kept =
      served_right old new slot client number call reply was right well (admitted_is_up log_kind admitted) fits made is kept

  pub run_reply : (number : ℕ) (reply : Reply) (is : List (List (Option Verdict)))
      → request_admission log_kind old slot client ≡ Ok tt → IsServed old new slot client number call reply
      → IsReplyAt (record { broker = new; kept = is }) slot client number reply
  run_reply number reply is admitted made =
      served_reply old new slot client number call reply was right well (admitted_is_up log_kind admitted) fits made is
      (served_kind log_kind old slot client made.world admitted made.was)
