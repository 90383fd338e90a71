-- What a step of a client's call makes of the histories, and what it says of the call where it is refused.
use Rattle.std.proofs.Common.{◌≡◌, ◌≢◌, inl, inr, ◌<◌, ℕ, Bool, true, false, [], ◌∷◌, length, Option, Some, None}
use Rattle.std.proofs.Common.{Result, Ok, Err, is_ok, if◌then◌else◌, slice_get, slice_index_or, refl, sym, ap, subst}
use Rattle.std.proofs.Common.{◌∙◌, arith}
use Rattle.std.specs.Prelude.{is_some, unwrap_or}
use Rattle.std.proofs.lemmas.Bool.{lt-ltb}
use Rattle.std.proofs.lemmas.Option.{get_or_from_slice_get, slice_get_within, unwrap_or-slice_get}
use Rattle.words.specs.declared.call.Client.{Client}
use Rattle.words.specs.declared.call.Reply.{Reply}
use Rattle.words.specs.declared.refusal.Refusal.{Refusal}
use Rattle.words.specs.declared.refusal.Refusal.TheVariants.{NoClient, NoMemory, NotReady}
use Rattle.recover.specs.declared.recovery.Recovery.{Recovery}
use Rattle.events.specs.History.{IsOpenFrom}
use Rattle.events.specs.declared.event.Event.TheVariants.{Return as return_event}
use Rattle.protocol.specs.declared.UnderWay.{UnderWay}
use Rattle.protocol.specs.declared.acts.Act.TheVariants.{Step}
use Rattle.protocol.specs.invariants.Worlds.{InvAt, IsCalling, IsReady, KnowsCall, Working, ledger_of}
use Rattle.interleave.specs.Calls.{is_no_memory, waiting_result}
use Rattle.interleave.specs.Holds.{Holds, from_invariant}
use Rattle.interleave.specs.State.{State, after_step, is_down, machine, step_result, step_result_with, step_with}
use Rattle.interleave.proofs.Facts.{step_adds, step_adds_none, waiting_is}
use Rattle.named.specs.Brokers.{IsWell, admission, answer_if, world_at}
use Rattle.named.specs.Slots.{acted, answered}
use Rattle.named.specs.declared.recovery.BrokerRecovery.{BrokerRecovery}
use Rattle.named.proofs.Facts.{some_is}
use Rattle.session.specs.Promises.{KeepsNumbers}
use Rattle.session.specs.Requests.{IsAdvanced}
use Rattle.session.specs.Sessions.{Sessioned}
use Rattle.session.proofs.Facts.{answered_at, clients_there, holds_there, open_after, open_answer, up_there}
use Rattle.workers.specs.Lists.{events_at, events_of}
use Rattle.workers.proofs.guard.Acts.{CallsNow, HasNext, IsCarriedFor, IsLost}
use Rattle.workers.proofs.histories.Slots.{goes_by_act, next_came, quiet_carried, stays_by_client, stays_if_same}

-- a ready world knows the calls under way, and says so of each client
working_there : (w : State) → Holds w → w.recovery ≡ None → Working (machine w)
working_there w holds up =
    let inv : InvAt (machine w) w.recovery = from_invariant (machine w) holds.inv in
    let ready : IsReady (machine w) = subst (InvAt (machine w)) up inv in
    ready.working

-- a client that has a call waiting calls now
pub calls_now : (w : State) → Holds w → w.recovery ≡ None → (client : Client) (u : UnderWay)
    → slice_get w.calls client.0 ≡ Some (Some u) → CallsNow w.log.events client
calls_now w holds up client u at =
    let working = working_there w holds up in
    let waits : slice_index_or w.calls client.0 None ≡ Some u =
    get_or_from_slice_get w.calls client.0 (Some u) None at in
    let knows = subst (KnowsCall w.shape (machine w).memory (ledger_of (machine w)) w.log.events client.0) waits
    (working.calls client.0) in
    let calling : IsCalling w.log.events client.0 u = knows.1 in
    let who : u.begun.client ≡ client = ap (λ (n : ℕ). let x : Client = record { 0 = n } in x) calling.who in
    record {
      place = u.place;
      before = slice_get_within w.log.events u.place _ calling.stands;
      open_from = subst (λ (c : Client). IsOpenFrom w.log.events c (length w.log.events) u.place) who calling.open_from;
    }

-- one with none does not
pub not_now : (w : State) → Holds w → w.recovery ≡ None → (client : Client) → slice_index_or w.calls client.0 None ≡ None
    → CallsNow w.log.events client → ⊥
not_now w holds up client none = (working_there w holds up).idle client none

-- a step that is made has a call
record IsWaiting (w : State) (client : Client) : Type 0 where
  pub u : UnderWay
  pub at : slice_get w.calls client.0 ≡ Some (Some u)

waits_if_stepped : (w : State) (client : Client) (answer : Option Reply) → step_result false w client ≡ Ok answer
    → IsWaiting w client
waits_if_stepped w client answer is = go (waiting_result (is_down w) (slice_get w.calls client.0)) refl is
  where
    go : (r : Result UnderWay Refusal) → waiting_result (is_down w) (slice_get w.calls client.0) ≡ r
        → step_result_with false w r ≡ Ok answer → IsWaiting w client
    go (Err refusal) e none = absurd (cc (none))
    go (Ok u) e some = record { u = u; at = waiting_is (is_down w) (slice_get w.calls client.0) u e }

-- one that is refused leaves the world
refused_leaves : (full : Bool) (w : State) (client : Client) (refusal : Refusal)
    → step_result full w client ≡ Err refusal → after_step full w client ≡ w
refused_leaves full w client refusal is = go (waiting_result (is_down w) (slice_get w.calls client.0)) full is
  where
    go : (r : Result UnderWay Refusal) (f : Bool) → step_result_with f w r ≡ Err refusal → step_with f w client r ≡ w
    go (Err other) f e = refl
    go (Ok u) true e = refl
    go (Ok u) false e = absurd (cc (e))

module _ (old new : Sessioned) (slot : ℕ) (client : Client) (keeps : KeepsNumbers old) where
  -- the call goes on, and nothing is told yet
  pub advanced_more : IsAdvanced old.broker new.broker slot client (Ok None) → (u : Client) → IsCarriedFor false u old new
  advanced_more advanced =
      let at = answered_at (λ w. step_result false w client) old.broker slot client None (sym advanced.act.answers) in
      quiet_carried old new slot advanced.beside
      (stays_by_client false (Step client) old.broker new.broker slot client keeps.broker.well advanced.act.world
      (λ w here admitted.
      let it : at.world ≡ w = some_is (world_at old.broker slot) at.world w at.here here in
      step_adds_none w client (subst (λ (v : State). step_result false v client ≡ Ok None) it at.says)))

  -- it is answered: its Return comes to the history
  pub advanced_answered : (reply : Reply) → IsAdvanced old.broker new.broker slot client (Ok (Some reply))
      → HasNext old new slot (return_event client reply) × CallsNow (events_at old.broker slot) client
  advanced_answered reply advanced =
      let at =
      answered_at (λ w. step_result false w client) old.broker slot client (Some reply) (sym advanced.act.answers) in
      let w : State = at.world in
      let holds = holds_there old.broker keeps.broker.well slot w at.here in
      let up = up_there old.broker keeps.broker.well slot w at.here at.up in
      let waits = waits_if_stepped w client (Some reply) at.says in (
        next_came old new slot advanced.beside (return_event client reply)
            (goes_by_act false w (Step client) (return_event client reply ∷ []) (world_at old.broker slot)
            (world_at new.broker slot) holds at.here
            (advanced.act.world
            ∙ open_after (λ v. after_step false v client) old.broker slot client
            (record { world = w; here = at.here; admitted = at.admitted }))
            (step_adds w client (Some reply) at.says))
            at.up,
        subst (λ (o : Option State). CallsNow (events_of o) client) (sym at.here)
            (calls_now w holds up client waits.u waits.at),
      )

  -- it is refused: the world of the slot stays
  module _ (refusal : Refusal) (advanced : IsAdvanced old.broker new.broker slot client (Err refusal)) where
    abbrev full : Bool
    full = is_no_memory {X = Option Reply} (Err refusal)

    left_alone : world_at new.broker slot ≡ world_at old.broker slot
    left_alone = go (admission old.broker client) (world_at old.broker slot) advanced.act.world advanced.act.answers
      where
        go : (r : Result Unit Refusal) (o : Option State)
            → world_at new.broker slot ≡ (if is_ok r then acted (λ w. after_step full w client) o else o)
            → Err refusal ≡ answer_if r (answered (λ w. step_result full w client) o) → world_at new.broker slot ≡ o
        go (Err other) o is says = is
        go (Ok u) None is says = is
        go (Ok u) (Some w) is says =
            is ∙ ap (λ (v : State). Some v) (refused_leaves full w client refusal (sym says))

    pub advanced_refused : (u : Client) → IsCarriedFor false u old new
    advanced_refused =
        quiet_carried old new slot advanced.beside
        (stays_if_same (world_at old.broker slot) (world_at new.broker slot) left_alone)

    -- where it was not for memory, the broker is down or no call of the client is under way
    module _ (other : refusal ≢ NoMemory) where
      -- a client with a call would have made its step
      none_waits : old.broker.recovery ≡ None → (w : State) → world_at old.broker slot ≡ Some w → (u : UnderWay)
          → slice_get w.calls client.0 ≡ Some (Some u) → ⊥
      none_waits up w here u at =
          other (by full (advanced.act.answers
          ∙ open_answer (λ v. step_result full v client) old.broker slot client
          (record { world = w; here = here; admitted = admitted })
          ∙ ap (λ (o : Option (Option UnderWay)). step_result_with full w (waiting_result (is_down w) o)) at
          ∙ ap (λ (r : Option Recovery). step_result_with full w (waiting_result (is_some r) (Some (Some u)))) ready))
        where
          well : IsWell old.broker
          well = keeps.broker.well

          ready : w.recovery ≡ None
          ready = up_there old.broker well slot w here up

          below : client.0 < old.broker.counts.clients
          below =
              let within = slice_get_within w.calls client.0 (Some u) at in
              let all : length w.calls ≡ w.shape.clients = (holds_there old.broker well slot w here).safe.clients in
              let same : w.shape.clients ≡ old.broker.counts.clients = clients_there old.broker well slot w here in
              omega (arith, within, all, same)

          let_in : Bool → Option BrokerRecovery → Result Unit Refusal
          let_in has recovery = if has then (if is_some recovery then Err NotReady else Ok tt) else Err NoClient

          admitted : admission old.broker client ≡ Ok tt
          admitted =
              ap (λ (has : Bool). let_in has old.broker.recovery) (lt-ltb client.0 old.broker.counts.clients below)
              ∙ ap (let_in true) up

          by : (f : Bool) → Err refusal ≡ step_result_with f w (Ok u) → refusal ≡ NoMemory
          by true e = cc (e)
          by false e = absurd (cc (e))

      lost_then : IsLost old slot client
      lost_then = go old.broker.recovery refl
        where
          none_calls : old.broker.recovery ≡ None → (w : State) → world_at old.broker slot ≡ Some w
              → (o : Option (Option UnderWay)) → slice_get w.calls client.0 ≡ o
              → slice_index_or w.calls client.0 None ≡ None
          none_calls up w here None at =
              sym (unwrap_or-slice_get w.calls client.0 None)
              ∙ ap (λ (o : Option (Option UnderWay)). unwrap_or o None) at
          none_calls up w here (Some None) at = get_or_from_slice_get w.calls client.0 None None at
          none_calls up w here (Some (Some u)) at = absurd (none_waits up w here u at)

          in_slot : old.broker.recovery ≡ None → (o : Option State) → world_at old.broker slot ≡ o
              → CallsNow (events_of o) client → ⊥
          in_slot up None there calls = let before = calls.before in omega (arith, before)
          in_slot up (Some w) there calls =
              not_now w (holds_there old.broker keeps.broker.well slot w there)
              (up_there old.broker keeps.broker.well slot w there up) client
              (none_calls up w there (slice_get w.calls client.0) refl) calls

          go : (o : Option BrokerRecovery) → old.broker.recovery ≡ o → IsLost old slot client
          go (Some r) e = inl (ap (λ (o : Option BrokerRecovery). is_some o) e)
          go None e = inr (in_slot e (world_at old.broker slot) refl)

      pub advanced_lost : IsLost old slot client × IsLost new slot client
      advanced_lost = (
        lost_then,
        elim lost_then [
          | inl down ↦ inl (ap (λ (o : Option BrokerRecovery). is_some o) advanced.beside.recovery ∙ down)
          | inr none ↦ inr (subst (λ (o : Option State). CallsNow (events_of o) client → ⊥) (sym left_alone) none)
        ],
      )
