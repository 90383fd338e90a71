-- A client's last verdict stays its last one until its own call is answered, which gives it another.
use Rattle.std.proofs.Common.{[], ◌≡◌, ℕ, ◌<◌, inl, inr, Bool, true, false, List, ◌∷◌, Option}
use Rattle.std.proofs.Common.{Some, None, Result, Ok, Err, slice_get, slice_index_or, refl, sym, ap, ◌∙◌, subst}
use Rattle.std.proofs.lemmas.Grind.{get_or-set_at}
use Rattle.std.proofs.lemmas.Option.{get_or_from_slice_get, slice_get_within}
use Rattle.words.specs.declared.call.Client.{Client}
use Rattle.words.specs.declared.call.Kind.TheVariants.{Log as log_kind}
use Rattle.words.specs.declared.call.Reply.{Reply}
use Rattle.words.specs.declared.limits.TheConstants.{MAX_CLIENTS}
use Rattle.words.specs.declared.refusal.Refusal.{Refusal}
use Rattle.words.specs.declared.told.Told.{Told}
use Rattle.words.specs.declared.told.Told.TheVariants.{Verdict as told_verdict}
use Rattle.words.specs.declared.told.Verdict.{Verdict}
use Rattle.interleave.specs.LogQueue.{verdict_of}
use Rattle.arena.specs.Layout.{place_at}
use Rattle.arena.specs.declared.place.Place.{Place}
use Rattle.stepper.specs.declared.resume.After.{After}
use Rattle.stepper.specs.declared.resume.After.TheVariants.{More, Done}
use Rattle.helping.specs.declared.op.Op.{Op}
use Rattle.events.specs.History.{CallAt}
use Rattle.events.specs.declared.event.Event.{Event}
use Rattle.events.specs.declared.event.Event.TheVariants.{Return as return_event}
use Rattle.events.proofs.Facts.{get_longer}
use Rattle.protocol.specs.Machine.{World, MayStep, next_of, with_next}
use Rattle.protocol.specs.declared.UnderWay.{UnderWay}
use Rattle.protocol.specs.declared.acts.Act.{Act}
use Rattle.protocol.specs.declared.acts.Act.TheVariants.{Step, Evict}
use Rattle.protocol.specs.invariants.Worlds.{Inv}
use Rattle.protocol.proofs.Facts.{calling, is_ready}
use Rattle.interleave.specs.Calls.{answer_of, waiting_result}
use Rattle.interleave.specs.Holds.{Holds, from_invariant}
use Rattle.interleave.specs.Queue.{told_in}
use Rattle.interleave.specs.State.{State, machine, after_attempt, after_evict, after_one_access, after_step, evict_with}
use Rattle.interleave.specs.State.{is_down, queue_left, step_result, step_result_with, step_with}
use Rattle.interleave.specs.Verdicts.{IsIdle, IsLast, IsReplyOf, IsRested, floor_in, kept_told, number_of_call}
use Rattle.interleave.specs.Verdicts.{number_under_way, taken_as}
use Rattle.interleave.proofs.machine.Holding.{gone_on_is, may_step, waiting_is}
use Rattle.interleave.proofs.verdicts.Acts.{floor_answered, floor_below, told_after}
use Rattle.interleave.proofs.verdicts.Moves.{moves}
use Rattle.interleave.proofs.verdicts.Steps.{begins_answered, events_answered, machine_told, taken_answered}
use Rattle.interleave.proofs.verdicts.Steps.{told_answered}
use Rattle.interleave.proofs.verdicts.Tells.{kept_is}

none_some : {X : Type 0} {x : X} → None ≡ Some x → ⊥
none_some e = cc

-- an act that does not answer the client's own call leaves its last verdict
pub last_after : (full : Bool) (w : State) (act : Act ℕ) → Holds w → w.shape.kind ≡ log_kind → (client : Client)
    → client.0 < MAX_CLIENTS → (last : Option Verdict) → w.recovery ≡ None
    → (after_attempt full w act).recovery ≡ None
    → ((reply : Reply) → act ≡ Step client → step_result full w client ≡ Ok (Some reply) → ⊥)
    → IsLast w client last → IsLast (after_attempt full w act) client last
last_after full w act holds log client few last up still unanswered is =
    elim (moves w holds log client few full act up still) [
      | inl kept ↦ record {
        floor = kept.floor ∙ is.floor;
        told = λ idle.
            let was : (c : Option UnderWay) → slice_index_or w.calls client.0 None ≡ c → IsIdle w client = λ c.
            was_idle (after_attempt full w act) kept.busy idle c in
            elim (told_after w holds log client few full act) [
              | inl same ↦ same ∙ is.told (was (slice_index_or w.calls client.0 None) refl)
              | inr own ↦ let x = kept.busy own.u own.at in absurd (none_some (sym idle ∙ x.1))
            ];
      }
      | inr answering ↦ absurd (unanswered answering.reply answering.step answering.result)
    ]
  where
    was_idle : (new : State) → ((u : UnderWay) → slice_index_or w.calls client.0 None ≡ Some u
        → (x : UnderWay) × (slice_index_or new.calls client.0 None ≡ Some x)) → IsIdle new client
        → (c : Option UnderWay) → slice_index_or w.calls client.0 None ≡ c → IsIdle w client
    was_idle new busy idle None e = e
    was_idle new busy idle (Some u) e = let x = busy u e in absurd (none_some (sym idle ∙ x.1))

-- the client's call was answered: what that gives it
pub record IsGiven (old : State) (client : Client) (number : ℕ) (reply : Reply) (new : State) : Type 0 where
  pub last : IsLast new client (Some (taken_as number reply))
  pub reply_of : IsReplyOf new client number reply
  pub idle : IsIdle new client
  pub above : floor_in old.queue client < number

-- a step by which a call answers
module _ (w : State) (holds : Holds w) (log : w.shape.kind ≡ log_kind) (client : Client)
    (few : client.0 < MAX_CLIENTS) (u : UnderWay) (here : slice_get w.calls client.0 ≡ Some (Some u)) (reply : Reply)
    (ends : next_of (machine w) u ≡ Done reply) where
  abbrev m : World
  m = machine w

  abbrev new : State
  new = after_one_access w client u

  inv : Inv m
  inv = from_invariant _ holds.inv

  may : MayStep m client u
  may = may_step w client u holds here

  who : u.begun.client.0 ≡ client.0
  who = (calling m (is_ready m inv may.ready).working client.0 u may.waits).1.who

  told : kept_told new client ≡ told_verdict (taken_as u.begun.number reply)
  told =
      kept_is new client few ∙ ap (λ (v : World). machine_told v client) (gone_on_is w client u holds here)
      ∙ told_answered m inv log client u may reply ends few

  given : IsGiven w client u.begun.number reply new
  given = record {
    last = record {
      floor = ap (λ (a : After Op Reply). floor_in (queue_left w.queue u a) client) ends
          ∙ floor_answered w holds log client few u reply who;
      told = λ idle. told;
    };
    reply_of = inl (record {
      place = u.place;
      has_number = (
        u.begun.call,
        subst (λ (es : List Event). CallAt es u.place client u.begun.number u.begun.call)
            (sym (events_answered m inv log client u may reply ends))
            (get_longer w.log.events (return_event client reply ∷ []) u.place _
            (begins_answered m inv log client u may reply ends)),
      );
      taken = taken_answered m inv log client u may reply ends;
    });
    idle =
        get_or-set_at w.calls client.0 client.0 (with_next u (next_of m u)) None refl
        (slice_get_within w.calls client.0 (Some u) here)
        ∙ ap (λ (a : After Op Reply). with_next u a) ends;
    above = floor_below w holds log client few u may.waits;
  }

-- so an answer is the client's last verdict
pub answered : (full : Bool) (w : State) → Holds w → w.shape.kind ≡ log_kind → (client : Client)
    → client.0 < MAX_CLIENTS → (number : ℕ) (reply : Reply) → step_result full w client ≡ Ok (Some reply)
    → number_under_way w client ≡ Some number → IsGiven w client number reply (after_step full w client)
answered full w holds log client few number reply is has =
    go full (waiting_result (is_down w) (slice_get w.calls client.0)) refl is
  where
    of_call : (u : UnderWay) → slice_get w.calls client.0 ≡ Some (Some u) → (next : After Op Reply)
        → next_of (machine w) u ≡ next → answer_of next ≡ Some reply
        → IsGiven w client number reply (after_one_access w client u)
    of_call u here (More op) e answer = absurd (none_some answer)
    of_call u here (Done other) e answer =
        let same : other ≡ reply = cc in
        let at : slice_index_or w.calls client.0 None ≡ Some u =
        get_or_from_slice_get w.calls client.0 (Some u) None here in
        let numbered : Some u.begun.number ≡ Some number = ap number_of_call (sym at) ∙ has in
        let number_is : u.begun.number ≡ number = cc in
        subst (λ (n : ℕ). IsGiven w client n reply (after_one_access w client u)) number_is
        (given w holds log client few u here reply (e ∙ ap (λ (r : Reply). let a : After Op Reply = Done r in a) same))

    go : (f : Bool) (r : Result UnderWay Refusal) → waiting_result (is_down w) (slice_get w.calls client.0) ≡ r
        → step_result_with f w r ≡ Ok (Some reply) → IsGiven w client number reply (step_with f w client r)
    go f (Err refusal) e answer = cc
    go true (Ok u) e answer = cc
    go false (Ok u) e answer =
        of_call u (waiting_is _ _ u e) (next_of (machine w) u) refl
        (let same : answer_of (next_of (machine w) u) ≡ Some reply = cc in same)

-- an eviction in a ready queue where nobody has called leaves it at rest
pub rested_after : (w : State) (word : ℕ) → Holds w → w.shape.kind ≡ log_kind → w.recovery ≡ None → IsRested w
    → IsRested (after_evict w word)
rested_after w word holds log up rested = record {
  nobody = λ client. nobody client (place_at w.shape word);
  last = λ client few.
      subst (λ (ts : List Told). IsLast (after_evict w word) client (verdict_of (slice_get ts client.0)))
      (sym (told_same (place_at w.shape word)))
      (last_after false w (Evict word) holds log client few (verdict_of (slice_get (told_in w.queue) client.0)) up
      (still (place_at w.shape word)) (λ reply step. cc) (rested.last client few));
}
  where
    nobody : (client : Client) (o : Option Place) → IsIdle (evict_with w word o) client
    nobody client None = rested.nobody client
    nobody client (Some p) = rested.nobody client

    told_same : (o : Option Place) → told_in (evict_with w word o).queue ≡ told_in w.queue
    told_same None = refl
    told_same (Some p) = refl

    still : (o : Option Place) → (evict_with w word o).recovery ≡ None
    still None = up
    still (Some p) = up
