-- A session stays right over its clients' calls.
use Rattle.std.proofs.Common.{◌≡◌, ◌≢◌, ◌⊎◌, inl, inr, ℕ, ◌<◌, Bool, true, false, is_some, length, List, Option, Some, None, Result, Ok, Err, slice_get, slice_index_or, refl, sym, ap, subst, ◌∙◌, arith}
use Rattle.std.proofs.lemmas.Bool.{cases_eq}
use Rattle.std.proofs.lemmas.Option.{get_or_from_slice_get, slice_get_within}
use Rattle.words.specs.declared.call.Client.{Client}
use Rattle.words.specs.declared.call.Kind.{Kind}
use Rattle.words.specs.declared.call.Kind.TheVariants.{Durable as durable_kind, Log as log_kind}
use Rattle.words.specs.declared.call.Reply.{Reply}
use Rattle.words.specs.declared.refusal.Refusal.{Refusal}
use Rattle.words.specs.declared.told.Verdict.{Verdict}
use Rattle.protocol.specs.declared.UnderWay.{UnderWay}
use Rattle.interleave.specs.Calls.{is_no_memory, waiting_result}
use Rattle.interleave.specs.Holds.{Holds}
use Rattle.interleave.specs.State.{State, after_step, is_down as is_world_down, step_result, step_result_with}
use Rattle.interleave.specs.Verdicts.{number_of_call, number_under_way, taken_as, IsLast, IsRecalled}
use Rattle.interleave.proofs.Facts.{answered, waiting_is}
use Rattle.named.specs.Acting.{IsSameBeside}
use Rattle.named.specs.Brokers.{Brokered, IsWell, admission, answer_at, world_at}
use Rattle.named.proofs.Facts.{some_is, step_alike}
use Rattle.arena.specs.Shape.{Shape}
use Rattle.session.specs.Keeping.{IsSettled, IsKeptNow, SessionGoesOn}
use Rattle.session.specs.Promises.{IsReplyIfNumbered, IsReplyIn}
use Rattle.session.proofs.calls.Clients.{laid_out_act}
use Rattle.session.proofs.calls.Numbers.{answers_go_on}
use Rattle.session.proofs.answers.NextNumbers.{answered_by_floor}
use Rattle.session.specs.Requests.{IsAdvanced, call_number, last_after, numbered}
use Rattle.session.specs.Sessions.{IsLogClient, IsRight, IsSlotRight, Sessioned, is_up, kept_in}
use Rattle.session.proofs.calls.SlotCalls.{IsAnsweredAt, IsKeptNew, admitted_up, answered_at, right_answered}
use Rattle.session.proofs.calls.SlotCalls.{right_by_client, right_if_durable, right_stepped, up_is}
use Rattle.session.proofs.downtime.Crashes.{up_same}
use Rattle.session.proofs.calls.Admissions.{open_after, open_answer}
use Rattle.session.proofs.calls.Slots.{right_if_quiet}
use Rattle.session.proofs.brokers.Worlds.{client_stays, holds_there, up_there}

-- the same verdicts
pub right_alike : (up : Bool) (o : Option State) (f g : ℕ → Option Verdict) → ((c : ℕ) → g c ≡ f c)
    → IsSlotRight up o f → IsSlotRight up o g
right_alike up None f g same is = λ c. same c ∙ is c
right_alike up (Some w) f g same is = λ log.
    let r = is log in
    record {
      recalled = λ client lt. subst (IsRecalled w client) (sym (same client.0)) (r.recalled client lt);
      last = λ is_up client lt. subst (IsLast w client) (sym (same client.0)) (r.last is_up client lt);
      rested = r.rested;
    }

module _ (old new : Brokered) (slot : ℕ) (was is : List (List (Option Verdict))) where
  -- where only the queue of one slot acted, and what is kept for it alone may have changed
  pub right_beside : IsWell new → IsSameBeside slot old new
      → ((at : ℕ) → at ≢ slot → (c : ℕ) → kept_in is at c ≡ kept_in was at c)
      → IsRight (record { broker = old; kept = was })
      → IsSlotRight (is_up old) (world_at new slot) (kept_in is slot) → IsRight (record { broker = new; kept = is })
  right_beside well others beside right here = record {
    well = well;
    slots = λ at. subst (λ (b : Bool). IsSlotRight b (world_at new at) (kept_in is at)) (sym up) (go at (cases_eq at slot));
  }
    where
      up : is_up new ≡ is_up old
      up = up_same old new others.recovery

      go : (at : ℕ) → (at ≡ slot) ⊎ (at ≢ slot) → IsSlotRight (is_up old) (world_at new at) (kept_in is at)
      go at (inl same) =
          subst (λ (n : ℕ). IsSlotRight (is_up old) (world_at new n) (kept_in is n)) (sym same) here
      go at (inr apart) =
          right_alike (is_up old) (world_at new at) (kept_in was at) (kept_in is at) (beside at apart)
          (right_if_quiet (is_up old) (world_at old at) (world_at new at) (kept_in was at) (others.others at apart)
          (right.slots at))

  -- what is kept for one client alone may have changed
  pub kept_beside : (client : Client) (last : Option Verdict) → IsKeptNow was is slot client.0 last
      → (at : ℕ) → at ≢ slot → (c : ℕ) → kept_in is at c ≡ kept_in was at c
  kept_beside client last kept at apart c = kept.others at c (inl apart)

  pub kept_new : (client : Client) (last : Option Verdict) → IsKeptNow was is slot client.0 last
      → IsKeptNew (kept_in was slot) (kept_in is slot) client last
  kept_new client last kept = record { here = kept.here; others = λ other apart. kept.others slot other (inr apart) }

  -- or nothing did
  pub kept_all : (client : ℕ) → IsKeptNow was is slot client (kept_in was slot client)
      → (at c : ℕ) → kept_in is at c ≡ kept_in was at c
  kept_all client kept at c = elim (cases_eq at slot) [
    | inr apart ↦ kept.others at c (inl apart)
    | inl here ↦ elim (cases_eq c client) [
      | inr other ↦ kept.others at c (inr other)
      | inl same ↦
          ap (λ (n : ℕ). kept_in is n c) here ∙ ap (kept_in is slot) same ∙ kept.here
          ∙ ap (kept_in was slot) (sym same) ∙ ap (λ (n : ℕ). kept_in was n c) (sym here)
    ]
  ]

-- a call that makes a step has a number, which is its own
step_numbered : (full : Bool) (w : State) (client : Client) (reply : Reply) → step_result full w client ≡ Ok (Some reply)
    → (n : ℕ) × (number_under_way w client ≡ Some n) × (client.0 < length w.calls)
step_numbered full w client reply is = go (waiting_result (is_world_down w) (slice_get w.calls client.0)) refl is
  where
    go : (r : Result UnderWay Refusal) → waiting_result (is_world_down w) (slice_get w.calls client.0) ≡ r
        → step_result_with full w r ≡ Ok (Some reply)
        → (n : ℕ) × (number_under_way w client ≡ Some n) × (client.0 < length w.calls)
    go (Err refusal) e answer = absurd (cc (answer))
    go (Ok u) e answer =
        let at : slice_index_or w.calls client.0 None ≡ Some u =
        get_or_from_slice_get w.calls client.0 (Some u) None (waiting_is _ _ u e) in
        (u.begun.number, ap number_of_call at, slice_get_within w.calls client.0 (Some u) (waiting_is _ _ u e))

-- what is kept stays where nothing was answered
last_same : (n : Option ℕ) (result : Result (Option Reply) Refusal) (last : Option Verdict)
    → ((reply : Reply) → result ≡ Ok (Some reply) → ⊥) → last_after n result last ≡ last
last_same None result last none = refl
last_same (Some n) (Err refusal) last none = refl
last_same (Some n) (Ok None) last none = refl
last_same (Some n) (Ok (Some reply)) last none = absurd (none reply refl)

-- a step
module _ (old new : Brokered) (slot : ℕ) (client : Client) (was is : List (List (Option Verdict))) where
  abbrev before : Sessioned
  before = record { broker = old; kept = was }

  -- one that answers nothing
  unanswered_right : (result : Result (Option Reply) Refusal) → ((reply : Reply) → result ≡ Ok (Some reply) → ⊥)
      → IsRight before → IsWell new → IsAdvanced old new slot client result
      → ((at c : ℕ) → kept_in is at c ≡ kept_in was at c) → IsRight (record { broker = new; kept = is })
  unanswered_right result none right well made same =
      right_beside old new slot was is well made.beside (λ at apart c. same at c) right
      (right_alike (is_up old) (world_at new slot) (kept_in was slot) (kept_in is slot) (same slot)
      (right_by_client (λ w. after_step full w client) old new slot client (kept_in was slot) made.act.world each
      (right.slots slot)))
    where
      full : Bool
      full = is_no_memory result

      each : (w : State) → world_at old slot ≡ Some w → admission old client ≡ Ok tt
          → IsSlotRight true (Some w) (kept_in was slot) → IsSlotRight true (Some (after_step full w client)) (kept_in was slot)
      each w here admitted r =
          right_stepped full w client (holds_there old right.well slot w here)
          (up_there old right.well slot w here (admitted_up old client admitted))
          (λ reply answers.
          none reply
          (made.act.answers
          ∙ open_answer (λ v. step_result full v client) old slot client
          (record { world = w; here = here; admitted = admitted }) ∙ answers))
          (kept_in was slot) r

  pub advanced_right : (result : Result (Option Reply) Refusal) → IsRight before → IsWell new
      → IsAdvanced old new slot client result
      → IsKeptNow was is slot client.0
      (last_after (call_number (world_at old slot) client) result (kept_in was slot client.0))
      → IsRight (record { broker = new; kept = is })
  advanced_right (Err refusal) right well made kept =
      unanswered_right (Err refusal) (λ reply e. absurd (cc (e))) right well made
      (kept_all old new slot was is client.0
      (subst (IsKeptNow was is slot client.0)
      (last_same (call_number (world_at old slot) client) (Err refusal) (kept_in was slot client.0) (λ reply e. absurd (cc (e)))) kept))
  advanced_right (Ok None) right well made kept =
      unanswered_right (Ok None) (λ reply e. absurd (cc (e))) right well made
      (kept_all old new slot was is client.0
      (subst (IsKeptNow was is slot client.0)
      (last_same (call_number (world_at old slot) client) (Ok None) (kept_in was slot client.0) (λ reply e. absurd (cc (e)))) kept))
  advanced_right (Ok (Some reply)) right well made kept =
      right_beside old new slot was is well made.beside (kept_beside old new slot was is client _ kept) right
      (subst (λ (b : Bool). IsSlotRight b (world_at new slot) (kept_in is slot)) (sym (up_is old at.up))
      (subst (λ (o : Option State). IsSlotRight true o (kept_in is slot)) (sym now) (by_kind w.shape.kind refl)))
    where
      at : IsAnsweredAt (λ w. step_result false w client) old slot client (Some reply)
      at = answered_at (λ w. step_result false w client) old slot client (Some reply) (sym made.act.answers)

      w : State
      w = at.world

      now : world_at new slot ≡ Some (after_step false w client)
      now = made.act.world
          ∙ open_after (λ v. after_step false v client) old slot client
          (record { world = w; here = at.here; admitted = at.admitted })

      was_right : IsSlotRight true (Some w) (kept_in was slot)
      was_right =
          subst (λ (b : Bool). IsSlotRight b (Some w) (kept_in was slot)) (up_is old at.up)
          (subst (λ (o : Option State). IsSlotRight (is_up old) o (kept_in was slot)) at.here (right.slots slot))

      n : (n : ℕ) × (number_under_way w client ≡ Some n) × (client.0 < length w.calls)
      n = step_numbered false w client reply at.says

      by_kind : (kind : Kind) → w.shape.kind ≡ kind → IsSlotRight true (Some (after_step false w client)) (kept_in is slot)
      by_kind durable_kind e =
          right_if_durable true (after_step false w client) (kept_in is slot)
          (λ log. absurd (cc (e, ap (λ (s : Shape). s.kind) (sym (step_alike false w client).0) ∙ log)))
      by_kind log_kind e =
          let holds : Holds w = holds_there old right.well slot w at.here in
          let has : call_number (world_at old slot) client ≡ Some n.0 =
          ap (λ (o : Option State). call_number o client) at.here
          ∙ ap (λ (k : Kind). numbered k (number_under_way w client)) e ∙ n.1 in
          let last : IsKeptNow was is slot client.0 (Some (taken_as n.0 reply)) =
          subst (λ (x : Option ℕ). IsKeptNow was is slot client.0 (last_after x (Ok (Some reply)) (kept_in was slot client.0)))
          has kept in
          right_answered false w client n.0 reply holds (holds_there new well slot (after_step false w client) now)
          (up_there old right.well slot w at.here at.up) e (omega (arith, n.2, holds.safe.clients, holds.safe.few)) at.says
          n.1 (kept_in was slot) (kept_in is slot) (kept_new old new slot was is client _ last) was_right

  -- the reply is that of the call's number
  pub advanced_reply : (reply : Reply) → IsRight before → IsAdvanced old new slot client (Ok (Some reply))
      → IsReplyIfNumbered (record { broker = new; kept = is }) slot client (call_number (world_at old slot) client) reply
  advanced_reply reply right made =
      subst (λ (o : Option State). IsReplyIfNumbered after slot client (call_number o client) reply) (sym at.here)
      (by_kind w.shape.kind refl)
    where
      after : Sessioned
      after = record { broker = new; kept = is }

      at : IsAnsweredAt (λ w. step_result false w client) old slot client (Some reply)
      at = answered_at (λ w. step_result false w client) old slot client (Some reply) (sym made.act.answers)

      w : State
      w = at.world

      now : world_at new slot ≡ Some (after_step false w client)
      now = made.act.world
          ∙ open_after (λ v. after_step false v client) old slot client
          (record { world = w; here = at.here; admitted = at.admitted })

      n : (n : ℕ) × (number_under_way w client ≡ Some n) × (client.0 < length w.calls)
      n = step_numbered false w client reply at.says

      by_kind : (kind : Kind) → w.shape.kind ≡ kind
          → IsReplyIfNumbered after slot client (numbered w.shape.kind (number_under_way w client)) reply
      by_kind durable_kind e =
          subst (λ (k : Kind). IsReplyIfNumbered after slot client (numbered k (number_under_way w client)) reply) (sym e) tt
      by_kind log_kind e =
          let holds : Holds w = holds_there old right.well slot w at.here in
          let is_number : numbered w.shape.kind (number_under_way w client) ≡ Some n.0 =
          ap (λ (k : Kind). numbered k (number_under_way w client)) e ∙ n.1 in
          subst (λ (x : Option ℕ). IsReplyIfNumbered after slot client x reply) (sym is_number)
          (subst (λ (o : Option State). IsReplyIn o client n.0 reply) (sym now)
          (answered false w holds e client (omega (arith, n.2, holds.safe.clients, holds.safe.few)) n.0 reply at.says n.1).reply_of)

  -- what was answered stays so
  pub advanced_on : (result : Result (Option Reply) Refusal) → IsRight before → IsAdvanced old new slot client result
      → IsKeptNow was is slot client.0
      (last_after (call_number (world_at old slot) client) result (kept_in was slot client.0))
      → SessionGoesOn before (record { broker = new; kept = is })
  advanced_on result right made kept = record {
    clients = client_stays old new
        (laid_out_act (λ v. after_step (is_no_memory result) v client)
        (λ v. (step_alike (is_no_memory result) v client).0) old new slot client made.act.world made.beside.others);
    answers = answers_go_on old new was is slot client kept.others (λ number reply its answers.
        subst (λ (v : Option Verdict). IsSettled v number reply) (sym kept.here) (stays result made number reply its answers));
  }
    where
      stays : (r : Result (Option Reply) Refusal) → IsAdvanced old new slot client r → (k : ℕ) (own : Reply)
          → IsLogClient old slot client → IsSettled (kept_in was slot client.0) k own
          → IsSettled (last_after (call_number (world_at old slot) client) r (kept_in was slot client.0)) k own
      stays (Err refusal) made k own its answers =
          subst (λ (v : Option Verdict). IsSettled v k own)
          (sym (last_same (call_number (world_at old slot) client) (Err refusal) (kept_in was slot client.0) (λ reply e. absurd (cc (e)))))
          answers
      stays (Ok None) made k own its answers =
          subst (λ (v : Option Verdict). IsSettled v k own)
          (sym (last_same (call_number (world_at old slot) client) (Ok None) (kept_in was slot client.0) (λ reply e. absurd (cc (e)))))
          answers
      stays (Ok (Some reply)) made k own its answers =
          let at : IsAnsweredAt (λ w. step_result false w client) old slot client (Some reply) =
          answered_at (λ w. step_result false w client) old slot client (Some reply) (sym made.act.answers) in
          let same : its.world ≡ at.world = some_is (world_at old slot) its.world at.world its.here at.here in
          let log : at.world.shape.kind ≡ log_kind = ap (λ (v : State). v.shape.kind) (sym same) ∙ its.log in
          let holds : Holds at.world = holds_there old right.well slot at.world at.here in
          let n = step_numbered false at.world client reply at.says in
          let given = answered false at.world holds log client (omega (arith, n.2, holds.safe.clients, holds.safe.few)) n.0 reply at.says n.1 in
          let rights : IsSlotRight true (Some at.world) (kept_in was slot) =
          subst (λ (b : Bool). IsSlotRight b (Some at.world) (kept_in was slot)) (up_is old at.up)
          (subst (λ (o : Option State). IsSlotRight (is_up old) o (kept_in was slot)) at.here (right.slots slot)) in
          let last : IsLast at.world client (kept_in was slot client.0) =
          (rights log).last refl client (subst (λ (v : State). client.0 < v.shape.clients) same its.few) in
          let low : k < n.0 =
          omega (arith, answered_by_floor (kept_in was slot client.0) k own answers, given.above, last.floor) in
          let has : call_number (world_at old slot) client ≡ Some n.0 =
          ap (λ (o : Option State). call_number o client) at.here
          ∙ ap (λ (k : Kind). numbered k (number_under_way at.world client)) log ∙ n.1 in
          subst (λ (x : Option ℕ). IsSettled (last_after x (Ok (Some reply)) (kept_in was slot client.0)) k own) (sym has)
          (inr low)

-- the number of the client's call, when asked
pub number_heard : (b : Brokered) (slot : ℕ) (client : Client) (n : Option ℕ) (asked : Result (Option ℕ) Refusal)
    → asked ≡ Ok n → asked ≡ answer_at (λ w. let r : Result (Option ℕ) Refusal = Ok (call_number (Some w) client) in r) b slot client
    → n ≡ call_number (world_at b slot) client
number_heard b slot client n asked is answers =
    let at = answered_at (λ w. let r : Result (Option ℕ) Refusal = Ok (call_number (Some w) client) in r) b slot client n (sym answers ∙ is) in
    let says : call_number (Some at.world) client ≡ n = cc (at.says) in
    sym says ∙ ap (λ (o : Option State). call_number o client) (sym at.here)

-- what is kept of it, where it was asked for before the step
pub kept_heard : (was is : List (List (Option Verdict))) (slot client : ℕ) (asked number : Option ℕ)
    (result : Result (Option Reply) Refusal) (answer : Option Reply) → asked ≡ number → result ≡ Ok answer
    → IsKeptNow was is slot client (last_after asked (Ok answer) (kept_in was slot client))
    → IsKeptNow was is slot client (last_after number result (kept_in was slot client))
kept_heard was is slot client asked number result answer same answers kept =
    subst (λ (r : Result (Option Reply) Refusal). IsKeptNow was is slot client (last_after number r (kept_in was slot client)))
    (sym answers)
    (subst (λ (n : Option ℕ). IsKeptNow was is slot client (last_after n (Ok answer) (kept_in was slot client))) same kept)

-- where the step is refused nothing is
pub kept_refused : (was : List (List (Option Verdict))) (slot client : ℕ) (number : Option ℕ)
    (result : Result (Option Reply) Refusal) (refusal : Refusal) → result ≡ Err refusal
    → IsKeptNow was was slot client (last_after number result (kept_in was slot client))
kept_refused was slot client number result refusal is =
    subst (IsKeptNow was was slot client)
    (sym (last_same number result (kept_in was slot client) (λ reply e. absurd (cc (is, e)))))
    (record { here = refl; others = λ at other apart. refl })

-- where it answers nothing, neither
pub kept_gone_on : (was : List (List (Option Verdict))) (slot client : ℕ) (number : Option ℕ)
    (result : Result (Option Reply) Refusal) → result ≡ Ok None
    → IsKeptNow was was slot client (last_after number result (kept_in was slot client))
kept_gone_on was slot client number result is =
    subst (IsKeptNow was was slot client)
    (sym (last_same number result (kept_in was slot client) (λ reply e. absurd (cc (is, e)))))
    (record { here = refl; others = λ at other apart. refl })

-- a step that did not answer
pub gone_on : (result : Result (Option Reply) Refusal) (answer : Option Reply) → result ≡ Ok answer
    → is_some answer ≡ false → result ≡ Ok None
gone_on result None is none = is
gone_on result (Some reply) is none = absurd (cc (none))
