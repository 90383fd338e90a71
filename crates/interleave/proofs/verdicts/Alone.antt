-- What clients were given, over a call that goes on alone.
use Rattle.std.proofs.Common.{◌≡◌, ◌≢◌, ℕ, zero, suc, ◌<◌, ◌==◌, Bool, true, false, if◌then◌else◌, Option, Some, None}
use Rattle.std.proofs.Common.{Result, Ok, Err, slice_get, slice_index_or, refl, sym, ap, ◌∙◌, subst, arith}
use Rattle.std.proofs.lemmas.Grind.{get_or-set_at}
use Rattle.std.proofs.lemmas.Option.{get_or_from_slice_get, slice_get_within}
use Rattle.words.specs.declared.call.Call.{Call}
use Rattle.words.specs.declared.call.Client.{Client}
use Rattle.words.specs.declared.call.Kind.{Kind}
use Rattle.words.specs.declared.call.Kind.TheVariants.{Log as log_kind}
use Rattle.words.specs.declared.call.Reply.{Reply}
use Rattle.words.specs.declared.limits.TheConstants.{MAX_CLIENTS}
use Rattle.words.specs.declared.refusal.Refusal.{Refusal}
use Rattle.words.specs.declared.refusal.Refusal.TheVariants.{NoMemory, NoRoom}
use Rattle.words.specs.declared.told.Verdict.{Verdict}
use Rattle.arena.specs.Shape.{Shape}
use Rattle.stepper.specs.declared.resume.After.{After}
use Rattle.stepper.specs.declared.resume.After.TheVariants.{More, Done}
use Rattle.helping.specs.declared.op.Op.{Op}
use Rattle.protocol.specs.Machine.{begun_of, call_begun, next_of, with_next}
use Rattle.protocol.specs.declared.UnderWay.{UnderWay}
use Rattle.protocol.specs.declared.acts.Act.{Act}
use Rattle.protocol.specs.declared.acts.Act.TheVariants.{Step}
use Rattle.interleave.specs.Calls.{answer_of, waiting_result}
use Rattle.interleave.specs.Holds.{Holds}
use Rattle.interleave.specs.Ranges.{IsOfKind}
use Rattle.interleave.specs.State.{State, IsAnsweredAlone, machine, after_alone, after_bump_load, after_call_began}
use Rattle.interleave.specs.State.{after_one_access, after_start, after_step, is_down, number_to_start}
use Rattle.interleave.specs.State.{start_result, start_result_with, start_with, step_result, step_result_with}
use Rattle.interleave.specs.State.{step_with}
use Rattle.interleave.specs.State.{used_by}
use Rattle.interleave.specs.Verdicts.{IsLast, IsRecalled, floor_in, number_of_call, number_under_way}
use Rattle.interleave.specs.declared.queue.Queue.{Queue}
use Rattle.interleave.specs.declared.queue.Queue.TheVariants.{Durable, Log}
use Rattle.interleave.proofs.runs.AloneReplies.{holds_alone, unanswered}
use Rattle.interleave.proofs.machine.Holding.{waiting_is}
use Rattle.interleave.proofs.machine.Starts.{IsTaken, startable, taken}
use Rattle.interleave.proofs.verdicts.Acts.{floor_below}
use Rattle.interleave.proofs.verdicts.Last.{IsGiven, answered, last_after}
use Rattle.interleave.proofs.verdicts.Recalled.{recalled_after}

none_some : {X : Type 0} {x : X} → None ≡ Some x → ⊥
none_some e = cc

-- a step leaves the layout, and recovery
shape_stepped : (w : State) (client : Client) → (after_step false w client).shape ≡ w.shape
shape_stepped w client = go (waiting_result (is_down w) (slice_get w.calls client.0))
  where
    go : (r : Result UnderWay Refusal) → (step_with false w client r).shape ≡ w.shape
    go (Err refusal) = refl
    go (Ok u) = refl

recovery_stepped : (w : State) (client : Client) → (after_step false w client).recovery ≡ w.recovery
recovery_stepped w client = go (waiting_result (is_down w) (slice_get w.calls client.0))
  where
    go : (r : Result UnderWay Refusal) → (step_with false w client r).recovery ≡ w.recovery
    go (Err refusal) = refl
    go (Ok u) = refl

module _ (w : State) (other : Client) where
  shape_alone : (n : ℕ) → (after_alone n w other).shape ≡ w.shape
  shape_alone zero = refl
  shape_alone (suc n) = shape_stepped (after_alone n w other) other ∙ shape_alone n

  kind_alone : w.shape.kind ≡ log_kind → (n : ℕ) → (after_alone n w other).shape.kind ≡ log_kind
  kind_alone log n = ap (λ (s : Shape). s.kind) (shape_alone n) ∙ log

  up_alone : w.recovery ≡ None → (n : ℕ) → (after_alone n w other).recovery ≡ None
  up_alone up zero = up
  up_alone up (suc n) = recovery_stepped (after_alone n w other) other ∙ up_alone up n

module _ (w : State) (holds : Holds w) (log : w.shape.kind ≡ log_kind) (client : Client)
    (few : client.0 < MAX_CLIENTS) where
  -- what is recalled stays so
  pub recalled_alone : (other : Client) (last : Option Verdict) → IsRecalled w client last → (steps : ℕ)
      → IsRecalled (after_alone steps w other) client last
  recalled_alone other last is zero = is
  recalled_alone other last is (suc n) =
      recalled_after false (after_alone n w other) (Step other) (holds_alone w other holds n) (kind_alone w other log n)
      client few last (recalled_alone other last is n)

  -- and the last verdict of another client than the one that goes on
  pub last_alone : (other : Client) → client.0 ≢ other.0 → (last : Option Verdict) → w.recovery ≡ None
      → IsLast w client last → (steps : ℕ) → IsLast (after_alone steps w other) client last
  last_alone other ne last up is zero = is
  last_alone other ne last up is (suc n) =
      last_after false (after_alone n w other) (Step other) (holds_alone w other holds n) (kind_alone w other log n)
      client few last (up_alone w other up n) (up_alone w other up (suc n))
      (λ reply step answers. apart step) (last_alone other ne last up is n)
    where
      apart : (let a : Act ℕ = Step other in a) ≡ Step client → ⊥
      apart step = let same : other ≡ client = cc in ne (ap (λ (c : Client). c.0) (sym same))

  -- a step that does not answer leaves the number of the call
  number_went : (v : State) (number : ℕ) → step_result false v client ≡ Ok None
      → number_under_way v client ≡ Some number
      → number_under_way (after_step false v client) client ≡ Some number
  number_went v number is has = go (waiting_result (is_down v) (slice_get v.calls client.0)) refl is
    where
      of_call : (u : UnderWay) → slice_get v.calls client.0 ≡ Some (Some u) → (next : After Op Reply)
          → next_of (machine v) u ≡ next → answer_of next ≡ None
          → number_under_way (after_one_access v client u) client ≡ Some number
      of_call u here (Done reply) e answer = absurd (none_some (sym answer))
      of_call u here (More op) e answer =
          let now : slice_index_or (after_one_access v client u).calls client.0 None ≡ with_next u (More op) =
          get_or-set_at v.calls client.0 client.0 (with_next u (next_of (machine v) u)) None refl
          (slice_get_within v.calls client.0 (Some u) here)
          ∙ ap (λ (a : After Op Reply). with_next u a) e in
          ap number_of_call now ∙ ap number_of_call (sym (get_or_from_slice_get v.calls client.0 (Some u) None here))
          ∙ has

      go : (r : Result UnderWay Refusal) → waiting_result (is_down v) (slice_get v.calls client.0) ≡ r
          → step_result_with false v r ≡ Ok None → number_under_way (step_with false v client r) client ≡ Some number
      go (Err refusal) e answer = has
      go (Ok u) e answer =
          of_call u (waiting_is _ _ u e) (next_of (machine v) u) refl
          (let same : answer_of (next_of (machine v) u) ≡ None = cc in same)

  number_alone : (number : ℕ) → number_under_way w client ≡ Some number → (n : ℕ) (answer : Option Reply)
      → step_result false (after_alone n w client) client ≡ Ok answer
      → number_under_way (after_alone n w client) client ≡ Some number
  number_alone number has zero answer is = has
  number_alone number has (suc n) answer is =
      let now : State = after_alone n w client in
      let before : step_result false now client ≡ Ok None = unanswered now client answer is in
      number_went now number before (number_alone number has n None before)

  -- the number of a call under way is above its client's floor
  above_floor : (number : ℕ) → number_under_way w client ≡ Some number → floor_in w.queue client < number
  above_floor number has = go (slice_index_or w.calls client.0 None) refl has
    where
      go : (c : Option UnderWay) → slice_index_or w.calls client.0 None ≡ c → number_of_call c ≡ Some number
          → floor_in w.queue client < number
      go None at is = absurd (none_some is)
      go (Some u) at is =
          let same : u.begun.number ≡ number = cc in
          let below = floor_below w holds log client few u at in
          omega (arith, below, same)

  -- a call that goes on alone to its answer gives its client that
  pub given_alone : (number : ℕ) → number_under_way w client ≡ Some number → (steps : ℕ) (reply : Reply)
      → IsAnsweredAlone w client steps reply → IsGiven w client number reply (after_alone steps w client)
  given_alone number has zero reply is = absurd is
  given_alone number has (suc n) reply is =
      let now : State = after_alone n w client in
      let x = answered false now (holds_alone w client holds n) (kind_alone w client log n) client few number reply is
      (number_alone number has n (Some reply) is) in
      record { last = x.last; reply_of = x.reply_of; idle = x.idle; above = above_floor number has }

-- a start of a log queue's call leaves it under way with its number
pub number_of_log : (queue : Queue) (client : Client) (number n : ℕ) → IsOfKind log_kind queue
    → IsTaken queue client number n → n ≡ number
number_of_log (Durable told) client number n is its = absurd is
number_of_log (Log clients) client number n is its = its.1

pub number_started : (full : Bool) (w : State) (client : Client) (number : ℕ) (call : Call) → Holds w
    → w.shape.kind ≡ log_kind → start_result full w client number call ≡ Ok tt
    → number_under_way (after_start full w client number call) client ≡ Some number
number_started full w client number call holds log is = go (number_to_start w client number call) refl is
  where
    kind : IsOfKind log_kind w.queue
    kind = subst (λ (k : Kind). IsOfKind k w.queue) log holds.kind

    began : (n : ℕ) → number_to_start w client number call ≡ Ok n
        → number_under_way (after_call_began w client n call) client ≡ Some number
    began n e =
        let found = startable w client number n call e in
        let now : slice_index_or (after_call_began w client n call).calls client.0 None
        ≡ Some (call_begun (machine w) (begun_of (machine w) client n call)) =
        get_or-set_at w.calls client.0 client.0 (Some (call_begun (machine w) (begun_of (machine w) client n call)))
        None refl (slice_get_within w.calls client.0 None found.idle) in
        ap number_of_call now
        ∙ ap (λ (m : ℕ). Some m)
        (number_of_log w.queue client number n kind (taken w.queue client number n found.taken))

    go : (r : Result ℕ Refusal) → number_to_start w client number call ≡ r → start_result_with full w client r ≡ Ok tt
        → number_under_way (start_with full w client call r) client ≡ Some number
    go (Err refusal) e answer = cc
    go (Ok n) e answer = both (used_by w client == w.shape.records) full answer
      where
        both : (a b : Bool)
            → (let r : Result Unit Refusal = if a then Err NoRoom else (if b then Err NoMemory else Ok tt) in r) ≡ Ok tt
            → number_under_way (if a then after_bump_load w
            else (if b then after_bump_load w else after_call_began w client n call)) client ≡ Some number
        both true b answer = cc
        both false true answer = cc
        both false false answer = began n e

-- so does a call that is started, and then goes on alone to its answer
pub answered_alone : (full : Bool) (w : State) (client : Client) (number : ℕ) (call : Call) → Holds w
    → w.shape.kind ≡ log_kind → client.0 < MAX_CLIENTS → Holds (after_start full w client number call)
    → start_result full w client number call ≡ Ok tt → (steps : ℕ) (reply : Reply)
    → IsAnsweredAlone (after_start full w client number call) client steps reply
    → IsGiven (after_start full w client number call) client number reply
    (after_alone steps (after_start full w client number call) client)
answered_alone full w client number call holds log few after is steps reply answers =
    given_alone (after_start full w client number call) after (ap (λ (s : Shape). s.kind) shape ∙ log) client few number
    (number_started full w client number call holds log is) steps reply answers
  where
    shape : (after_start full w client number call).shape ≡ w.shape
    shape = go (number_to_start w client number call)
      where
        go : (r : Result ℕ Refusal) → (start_with full w client call r).shape ≡ w.shape
        go (Err refusal) = refl
        go (Ok n) = both (used_by w client == w.shape.records) full
          where
            both : (a b : Bool) → (if a then after_bump_load w
                else (if b then after_bump_load w else after_call_began w client n call)).shape ≡ w.shape
            both true b = refl
            both false true = refl
            both false false = refl
