-- What a start makes of the histories.
use Rattle.std.proofs.Common.{◌≡◌, ◌++◌, ℕ, List, ◌==◌, Bool, true, false, [], ◌∷◌, Option, Some, None, Result, Ok}
use Rattle.std.proofs.Common.{Err, if◌then◌else◌, refl, sym, ap, subst, ◌∙◌}
use Rattle.std.specs.Prelude.{is_some}
use Rattle.words.specs.declared.call.Call.{Call}
use Rattle.words.specs.declared.call.Client.{Client}
use Rattle.words.specs.declared.call.Kind.{Kind}
use Rattle.words.specs.declared.call.Kind.TheVariants.{Durable as durable_kind, Log as log_kind}
use Rattle.words.specs.declared.call.Reply.{Reply}
use Rattle.words.specs.declared.refusal.Refusal.{Refusal}
use Rattle.words.specs.declared.refusal.Refusal.TheVariants.{Busy, NoMemory, NoRoom, Old, WrongKind}
use Rattle.events.specs.declared.event.Event.{Event}
use Rattle.events.specs.declared.event.Event.TheVariants.{Call as call_event}
use Rattle.protocol.specs.declared.acts.Act.TheVariants.{Start}
use Rattle.interleave.specs.Calls.{is_no_memory}
use Rattle.interleave.specs.OneEvent.{call_events}
use Rattle.interleave.specs.Ranges.{IsOfKind}
use Rattle.interleave.specs.State.{State, after_bump_load, after_call_began, after_start}
use Rattle.interleave.specs.State.{number_to_start}
use Rattle.interleave.specs.State.{start_result, start_result_with, start_with, used_by}
use Rattle.interleave.specs.Verdicts.{number_under_way}
use Rattle.interleave.specs.declared.queue.Queue.{Queue}
use Rattle.interleave.specs.declared.queue.Queue.TheVariants.{Durable, Log}
use Rattle.interleave.proofs.Facts.{IsTaken, act_adds_one, number_of_log, startable, taken}
use Rattle.named.specs.Brokers.{Brokered, admission, answer_if, world_at}
use Rattle.named.proofs.Facts.{some_is}
use Rattle.session.specs.Promises.{KeepsNumbers}
use Rattle.session.specs.Numbers.{by_number}
use Rattle.session.specs.Requests.{IsBegunBy, IsStarted, answer_to, as_begun, is_kind, number_or_zero, queue_admission}
use Rattle.session.specs.Requests.{request_admission}
use Rattle.session.specs.Sessions.{Sessioned, kept_at}
use Rattle.session.proofs.Facts.{IsAnsweredAt, answered_at, holds_there, open_after, open_answer}
use Rattle.workers.proofs.guard.Acts.{HasNext, IsCarriedFor}
use Rattle.workers.proofs.histories.Slots.{IsOnBy, goes_by_act, next_came, nothing_carried, quiet_carried}
use Rattle.workers.proofs.histories.Slots.{stays_by_client}

-- a start that is refused adds nothing: all that it may come to is the load of a bump word
refused_adds_none : (full : Bool) (w : State) (client : Client) (number : ℕ) (call : Call) (refusal : Refusal)
    → start_result full w client number call ≡ Err refusal
    → (after_start full w client number call).log.events ≡ w.log.events
refused_adds_none full w client number call refusal refused = go (number_to_start w client number call) refused
  where
    left : Bool → Bool → ℕ → State
    left a b n = if a then after_bump_load w else (if b then after_bump_load w else after_call_began w client n call)

    go : (r : Result ℕ Refusal) → start_result_with full w client r ≡ Err refusal
        → (start_with full w client call r).log.events ≡ w.log.events
    go (Err other) e = refl
    go (Ok n) e = both (used_by w client == w.shape.records) full e
      where
        both : (a b : Bool)
            → (if a then (let r : Result Unit Refusal = Err NoRoom in r) else (if b then Err NoMemory else Ok tt))
            ≡ Err refusal
            → (left a b n).log.events ≡ w.log.events
        both true b is = refl
        both false true is = refl
        both false false is = absurd (cc (is))

-- one that is accepted has a number in the history
record IsNumberedAs (w : State) (client : Client) (number : ℕ) (call : Call) : Type 0 where
  pub n : ℕ
  pub is : number_to_start w client number call ≡ Ok n

number_given : (full : Bool) (w : State) (client : Client) (number : ℕ) (call : Call)
    → start_result full w client number call ≡ Ok tt → IsNumberedAs w client number call
number_given full w client number call started = go (number_to_start w client number call) refl started
  where
    go : (r : Result ℕ Refusal) → number_to_start w client number call ≡ r → start_result_with full w client r ≡ Ok tt
        → IsNumberedAs w client number call
    go (Err refusal) is e = absurd (cc (e))
    go (Ok n) is e = record { n = n; is = is }

-- and adds its Call
started_adds : (w : State) (client : Client) (number n : ℕ) (call : Call) → start_result false w client number call ≡ Ok tt
    → number_to_start w client number call ≡ Ok n
    → (after_start false w client number call).log.events ≡ w.log.events ++ call_event client n call ∷ []
started_adds w client number n call started is =
    act_adds_one w (Start client number call)
    ∙ ap (λ (r : Result Unit Refusal). added r (number_to_start w client number call)) started ∙ ap (added (Ok tt)) is
  where
    added : Result Unit Refusal → Result ℕ Refusal → List Event
    added r its = w.log.events ++ call_events r its client call

-- in a durable queue its number is 0, in a log queue the one that was given
zero_if_durable : (queue : Queue) (client : Client) (number n : ℕ) → IsOfKind durable_kind queue
    → IsTaken queue client number n → n ≡ 0
zero_if_durable (Durable told) client number n is its = its
zero_if_durable (Log clients) client number n is its = absurd is

-- a request is let in to a queue of its kind alone
same_kind : (kind its : Kind) (busy : Bool)
    → (if is_kind kind its then (if busy then (let r : Result Unit Refusal = Err Busy in r) else Ok tt)
    else Err WrongKind)
    ≡ Ok tt → its ≡ kind
same_kind durable_kind durable_kind busy e = refl
same_kind log_kind log_kind busy e = refl
same_kind durable_kind log_kind busy e = absurd (cc (e))
same_kind log_kind durable_kind busy e = absurd (cc (e))

kind_asked : (kind : Kind) (b : Brokered) (slot : ℕ) (client : Client) (w : State) → world_at b slot ≡ Some w
    → request_admission kind b slot client ≡ Ok tt → w.shape.kind ≡ kind
kind_asked kind b slot client w here is =
    let at = answered_at (queue_admission kind client) b slot client tt is in
    ap (λ (v : State). v.shape.kind) (some_is (world_at b slot) w at.world here at.here)
    ∙ same_kind kind at.world.shape.kind (is_some (number_under_way at.world client)) at.says

let_in : {T : Type 0} (r : Result Unit Refusal) (answer : Result T Refusal) (x : T) → answer_if r answer ≡ Ok x
    → r ≡ Ok tt
let_in (Ok u) answer x e = refl
let_in (Err refusal) answer x e = absurd (cc (e))

-- so it is the number of the request, or 0 where that has none
number_asked : (old : Sessioned) (slot : ℕ) (client : Client) (number : Option ℕ) (call : Call) (w : State)
    → world_at old.broker slot ≡ Some w → IsOfKind w.shape.kind w.queue → answer_to old slot client number ≡ Ok None
    → (n : ℕ) → number_to_start w client (number_or_zero number) call ≡ Ok n → n ≡ number_or_zero number
number_asked old slot client (Some number) call w here its runs n is =
    let kind = kind_asked log_kind old.broker slot client w here (let_in _ _ _ runs) in
    number_of_log w.queue client number n (subst (λ (k : Kind). IsOfKind k w.queue) kind its)
    (taken w.queue client number n (startable w client number n call is).taken)
number_asked old slot client None call w here its runs n is =
    let kind = kind_asked durable_kind old.broker slot client w here (let_in _ _ _ runs) in
    zero_if_durable w.queue client 0 n (subst (λ (k : Kind). IsOfKind k w.queue) kind its)
    (taken w.queue client 0 n (startable w client 0 n call is).taken)

-- what a request came to that was not refused
module _ (old new : Sessioned) (slot : ℕ) (client : Client) (number : ℕ) (call : Call) where
  run_if_started : (answer : Result (Option Reply) Refusal)
      → IsBegunBy old new slot client number call (Ok None) answer
      → (answer ≡ Ok None) × IsStarted old.broker new.broker slot client number call (Ok None)
  run_if_started (Err refusal) begun = absurd (cc (begun.0))
  run_if_started (Ok (Some reply)) begun = absurd (cc (begun.0))
  run_if_started (Ok None) begun = (refl, begun.0)

  -- what the world of the slot answers
  abbrev answers : Bool → State → Result (Option Reply) Refusal
  answers full w = as_begun (start_result full w client number call)

  -- a start answers no reply
  never_begun : (r : Result Unit Refusal) (reply : Reply) → as_begun r ≡ Ok (Some reply) → ⊥
  never_begun (Ok u) reply e = cc (e)
  never_begun (Err refusal) reply e = cc (e)

  kept_if_answered : (answer : Result (Option Reply) Refusal) (reply : Reply)
      → IsBegunBy old new slot client number call (Ok (Some reply)) answer → (new ≡ old) × (answer ≡ Ok (Some reply))
  kept_if_answered (Err refusal) reply begun = absurd (cc (begun.0))
  kept_if_answered (Ok (Some kept)) reply begun = (begun.1, sym begun.0)
  kept_if_answered (Ok None) reply begun =
      let at = answered_at (answers false) old.broker slot client (Some reply) (sym begun.0.act.answers) in
      absurd (never_begun (start_result false at.world client number call) reply at.says)

  -- a refused start leaves the histories
  module _ (refusal : Refusal) (keeps : KeepsNumbers old)
      (started : IsStarted old.broker new.broker slot client number call (Err refusal)) where
    abbrev full : Bool
    full = is_no_memory {X = Option Reply} (Err refusal)

    refused_at : (w : State) → world_at old.broker slot ≡ Some w → admission old.broker client ≡ Ok tt
        → as_begun (start_result full w client number call) ≡ Err refusal
    refused_at w here admitted =
        sym (started.act.answers
        ∙ open_answer (answers full) old.broker slot client (record { world = w; here = here; admitted = admitted }))

    adds_none : (w : State) (r : Result Unit Refusal) → start_result full w client number call ≡ r
        → as_begun r ≡ Err refusal → (after_start full w client number call).log.events ≡ w.log.events
    adds_none w (Ok u) e none = absurd (cc (none))
    adds_none w (Err other) e none = refused_adds_none full w client number call other e

    start_refused : (u : Client) → IsCarriedFor false u old new
    start_refused =
        quiet_carried old new slot started.beside
        (stays_by_client full (Start client number call) old.broker new.broker slot client keeps.broker.well
        started.act.world
        (λ w here admitted. adds_none w (start_result full w client number call) refl (refused_at w here admitted)))

  pub begun_refused : (refusal : Refusal) (answer : Result (Option Reply) Refusal) → KeepsNumbers old
      → IsBegunBy old new slot client number call (Err refusal) answer → (u : Client) → IsCarriedFor false u old new
  begun_refused refusal (Err other) keeps begun = nothing_carried old new begun.1
  begun_refused refusal (Ok (Some reply)) keeps begun = nothing_carried old new begun.1
  begun_refused refusal (Ok None) keeps begun = start_refused refusal keeps begun.0

  -- one that is accepted adds its Call, with the number that it has in the history
  module _ (keeps : KeepsNumbers old)
      (started : IsStarted old.broker new.broker slot client number call (Ok None))
      (number_is : (w : State) → world_at old.broker slot ≡ Some w → IsOfKind w.shape.kind w.queue → (n : ℕ)
      → number_to_start w client number call ≡ Ok n → n ≡ number) where
    accepted : (r : Result Unit Refusal) → as_begun r ≡ Ok None → r ≡ Ok tt
    accepted (Ok u) e = refl
    accepted (Err refusal) e = absurd (cc (e))

    came : IsAnsweredAt (answers false) old.broker slot client None
        → IsOnBy (world_at old.broker slot) (call_event client number call ∷ []) (world_at new.broker slot)
    came at =
        let w : State = at.world in
        let ok = accepted (start_result false w client number call) at.says in
        let its = number_given false w client number call ok in
        let holds = holds_there old.broker keeps.broker.well slot w at.here in
        goes_by_act false w (Start client number call) (call_event client number call ∷ []) (world_at old.broker slot)
        (world_at new.broker slot) holds at.here
        (started.act.world
        ∙ open_after (λ v. after_start false v client number call) old.broker slot client
        (record { world = w; here = at.here; admitted = at.admitted }))
        (started_adds w client number its.n call ok its.is
        ∙ ap (λ (n : ℕ). w.log.events ++ call_event client n call ∷ []) (number_is w at.here holds.kind its.n its.is))

    call_came : HasNext old new slot (call_event client number call)
    call_came =
        let at = answered_at (answers false) old.broker slot client None (sym started.act.answers) in
        next_came old new slot started.beside (call_event client number call) (came at) at.up

-- a call that runs: its Call comes to the history
pub begun_run : (old new : Sessioned) (slot : ℕ) (client : Client) (number : Option ℕ) (call : Call) → KeepsNumbers old
    → IsBegunBy old new slot client (number_or_zero number) call (Ok None) (answer_to old slot client number)
    → HasNext old new slot (call_event client (number_or_zero number) call)
begun_run old new slot client number call keeps begun =
    let runs =
    run_if_started old new slot client (number_or_zero number) call (answer_to old slot client number) begun in
    call_came old new slot client (number_or_zero number) call keeps runs.1
    (λ w here its n is. number_asked old slot client number call w here its runs.0 n is)

-- a call that is answered from what is kept has a number, and changes nothing
pub begun_kept : (old new : Sessioned) (slot : ℕ) (client : Client) (number : Option ℕ) (call : Call) (reply : Reply)
    → IsBegunBy old new slot client (number_or_zero number) call (Ok (Some reply)) (answer_to old slot client number)
    → (new ≡ old) × ((n : ℕ) × (number ≡ Some n))
begun_kept old new slot client number call reply begun =
    let kept =
    kept_if_answered old new slot client (number_or_zero number) call (answer_to old slot client number) reply begun in
    (kept.0, has_number number kept.1)
  where
    plain : (r : Result Unit Refusal) → answer_if r (let x : Result (Option Reply) Refusal = Ok None in x)
        ≡ Ok (Some reply) → ⊥
    plain (Ok u) e = cc (e)
    plain (Err refusal) e = cc (e)

    has_number : (o : Option ℕ) → answer_to old slot client o ≡ Ok (Some reply) → (n : ℕ) × (o ≡ Some n)
    has_number (Some n) e = (n, refl)
    has_number None e = absurd (plain (request_admission durable_kind old.broker slot client) e)

-- a request with the number 0 is Old: it neither runs nor is answered
pub never_zero : (old new : Sessioned) (slot : ℕ) (client : Client) (number : Option ℕ) (call : Call)
    (began : Option Reply)
    → IsBegunBy old new slot client (number_or_zero number) call (Ok began) (answer_to old slot client number)
    → number ≡ Some 0 → ⊥
never_zero old new slot client number call began begun none =
    old_one (request_admission log_kind old.broker slot client)
    (subst
    (λ (n : Option ℕ).
    IsBegunBy old new slot client (number_or_zero number) call (Ok began) (answer_to old slot client n)) none begun)
  where
    refused : (r : Result (Option Reply) Refusal) (refusal : Refusal) → r ≡ Err refusal
        → IsBegunBy old new slot client (number_or_zero number) call (Ok began) r → ⊥
    refused r refusal is made =
        let it =
        (subst
        (λ (x : Result (Option Reply) Refusal).
        IsBegunBy old new slot client (number_or_zero number) call (Ok began) x) is made).0 in
        cc it

    old_one : (r : Result Unit Refusal)
        → IsBegunBy old new slot client (number_or_zero number) call (Ok began)
        (answer_if r (by_number (kept_at old slot client) 0)) → ⊥
    old_one (Ok u) made = refused (Err Old) Old refl made
    old_one (Err refusal) made = refused (Err refusal) refusal refl made
