-- An act leaves a client's floor and its call as they are, or it answers the call.
use Rattle.std.proofs.Common.{◌≡◌, ◌≢◌, ℕ, ◌<◌, ◌≤◌, ◌⊎◌, ◌==◌, inl, inr, Bool, true, false, if◌then◌else◌, Option}
use Rattle.std.proofs.Common.{Some, None}
use Rattle.std.proofs.Common.{Result, Ok, Err, slice_get, slice_index_or, refl, sym, ap, ◌∙◌, subst, arith}
use Rattle.std.proofs.Common.{get_or-set_other}
use Rattle.std.specs.Prelude.{is_some}
use Rattle.std.proofs.lemmas.Bool.{cases_eq}
use Rattle.std.proofs.lemmas.Grind.{get_or-set_at}
use Rattle.std.proofs.lemmas.Option.{get_or_from_slice_get, slice_get_within}
use Rattle.words.specs.declared.call.Call.{Call}
use Rattle.words.specs.declared.call.Client.{Client}
use Rattle.words.specs.declared.call.Kind.TheVariants.{Log as log_kind}
use Rattle.words.specs.declared.call.Reply.{Reply}
use Rattle.words.specs.declared.limits.TheConstants.{MAX_CLIENTS}
use Rattle.words.specs.declared.refusal.Refusal.{Refusal}
use Rattle.arena.specs.Layout.{place_at}
use Rattle.arena.specs.declared.place.Place.{Place}
use Rattle.stepper.specs.declared.resume.After.{After}
use Rattle.stepper.specs.declared.resume.After.TheVariants.{More, Done}
use Rattle.helping.specs.declared.op.Op.{Op}
use Rattle.recover.specs.declared.recovery.Recovery.{Recovery}
use Rattle.protocol.specs.Machine.{call_begun, begun_of, next_of, with_next}
use Rattle.protocol.specs.declared.UnderWay.{UnderWay}
use Rattle.protocol.specs.declared.acts.Act.{Act}
use Rattle.protocol.specs.declared.acts.Act.TheVariants.{Start, Step, Evict, Crash, Recover}
use Rattle.protocol.proofs.Facts.{calling, is_ready}
use Rattle.interleave.specs.Calls.{answer_of, waiting_result}
use Rattle.interleave.specs.Holds.{Holds, from_invariant}
use Rattle.interleave.specs.State.{State, machine, after_attempt, after_bump_load, after_call_began, after_one_access}
use Rattle.interleave.specs.State.{evict_with, is_down, number_to_start, queue_left, recover_with, start_with}
use Rattle.interleave.specs.State.{step_result}
use Rattle.interleave.specs.State.{step_result_with, step_with, used_by}
use Rattle.interleave.specs.Verdicts.{floor_in}
use Rattle.interleave.specs.declared.queue.Queue.{Queue}
use Rattle.interleave.specs.declared.queue.Queue.TheVariants.{Durable, Log}
use Rattle.interleave.proofs.machine.Holding.{ready_if_called, waiting_is}
use Rattle.interleave.proofs.machine.Starts.{startable}
use Rattle.interleave.proofs.verdicts.Acts.{floor_answered, floor_below}

none_some : {X : Type 0} {x : X} → None ≡ Some x → ⊥
none_some e = cc

-- the client with this number
same_client : (a b : Client) → a.0 ≡ b.0 → a ≡ b
same_client a b e = ap (λ (t : ℕ). let x : Client = record { 0 = t } in x) e

-- the floor is as it was, and a call that was under way is
pub record IsKept (w : State) (client : Client) (new : State) : Type 0 where
  pub floor : floor_in new.queue client ≡ floor_in w.queue client
  pub busy : (u : UnderWay) → slice_index_or w.calls client.0 None ≡ Some u
      → (x : UnderWay) × (slice_index_or new.calls client.0 None ≡ Some x)

-- the act answers the client's call, whose number is its floor then
pub record IsAnswering (w : State) (client : Client) (full : Bool) (act : Act ℕ) (new : State) : Type 0 where
  pub u : UnderWay
  pub at : slice_index_or w.calls client.0 None ≡ Some u
  pub reply : Reply
  pub step : act ≡ Step client
  pub result : step_result full w client ≡ Ok (Some reply)
  pub floor : floor_in new.queue client ≡ u.begun.number

-- another client's answer leaves the floor
floor_left : (queue : Queue) (u : UnderWay) (next : After Op Reply) (client : Client) → client.0 ≢ u.begun.client.0
    → floor_in (queue_left queue u next) client ≡ floor_in queue client
floor_left queue u (More op) client ne = refl
floor_left (Durable told) u (Done reply) client ne = refl
floor_left (Log clients) u (Done reply) client ne =
    get_or-set_other clients.floors u.begun.client.0 client.0 u.begun.number 0 ne

module _ (w : State) (holds : Holds w) (log : w.shape.kind ≡ log_kind) (client : Client)
    (few : client.0 < MAX_CLIENTS) where
  started : (c : Client) (n : ℕ) (call : Call) → slice_get w.calls c.0 ≡ Some None
      → IsKept w client (after_call_began w c n call)
  started c n call idle = record {
    floor = refl;
    busy = λ u at. (
      u,
      get_or-set_other w.calls c.0 client.0 (Some (call_begun (machine w) (begun_of (machine w) c n call))) None
          (λ same. none_some (sym (get_or_from_slice_get w.calls c.0 None None idle)
          ∙ ap (λ (t : ℕ). slice_index_or w.calls t None) (sym same) ∙ at))
          ∙ at,
    );
  }

  module _ (c : Client) (u : UnderWay) (here : slice_get w.calls c.0 ≡ Some (Some u)) where
    abbrev new : State
    new = after_one_access w c u

    who : u.begun.client.0 ≡ c.0
    who =
        let up = ready_if_called w c u holds here in
        let v = is_ready (machine w) (from_invariant _ holds.inv) up in
        (calling (machine w) v.working c.0 u (get_or_from_slice_get w.calls c.0 (Some u) None here)).1.who

    of_other : client.0 ≢ c.0 → IsKept w client new
    of_other ne = record {
      floor = floor_left w.queue u (next_of (machine w) u) client (λ same. ne (same ∙ who));
      busy = λ x at. (
        x,
        get_or-set_other w.calls c.0 client.0 (with_next u (next_of (machine w) u)) None ne ∙ at,
      );
    }

    of_own : (same : client.0 ≡ c.0) (next : After Op Reply) → next_of (machine w) u ≡ next
        → IsKept w client new ⊎ IsAnswering w client false (Step c) new
    of_own same (More op) e = inl (record {
      floor = ap (λ (a : After Op Reply). floor_in (queue_left w.queue u a) client) e;
      busy = λ x at. (
        record u { op = op },
        get_or-set_at w.calls c.0 client.0 (with_next u (next_of (machine w) u)) None same
            (slice_get_within w.calls c.0 (Some u) here)
            ∙ ap (λ (a : After Op Reply). with_next u a) e,
      );
    })
    of_own same (Done reply) e = inr (record {
      u = u;
      at = ap (λ (t : ℕ). slice_index_or w.calls t None) same ∙ get_or_from_slice_get w.calls c.0 (Some u) None here;
      reply = reply;
      step = ap Step (same_client c client (sym same));
      result = subst (λ (x : Client). step_result false w x ≡ Ok (Some reply)) (same_client c client (sym same))
          answers;
      floor = ap (λ (a : After Op Reply). floor_in (queue_left w.queue u a) client) e
          ∙ floor_answered w holds log client few u reply (who ∙ sym same);
    })
      where
        waits : waiting_result (is_down w) (slice_get w.calls c.0) ≡ Ok u
        waits =
            ap (λ (o : Option (Option UnderWay)). waiting_result (is_down w) o) here
            ∙ ap (λ (r : Option Recovery). waiting_result (is_some r) (Some (Some u)))
            (ready_if_called w c u holds here)

        answers : step_result false w c ≡ Ok (Some reply)
        answers = ap (step_result_with false w) waits ∙ ap (λ (a : After Op Reply). Ok (answer_of a)) e

    stepped : IsKept w client new ⊎ IsAnswering w client false (Step c) new
    stepped = elim (cases_eq client.0 c.0) [
      | inl same ↦ of_own same (next_of (machine w) u) refl
      | inr ne ↦ inl (of_other ne)
    ]

  as_it_was : IsKept w client w
  as_it_was = record { floor = refl; busy = λ u at. (u, at) }

  -- whatever the act, in a queue that is ready before and after
  pub moves : (full : Bool) (act : Act ℕ) → w.recovery ≡ None → (after_attempt full w act).recovery ≡ None
      → IsKept w client (after_attempt full w act) ⊎ IsAnswering w client full act (after_attempt full w act)
  moves full (Start c number call) up still = inl (go (number_to_start w c number call) refl)
    where
      go : (r : Result ℕ Refusal) → number_to_start w c number call ≡ r → IsKept w client (start_with full w c call r)
      go (Err refusal) e = as_it_was
      go (Ok n) e = both (used_by w c == w.shape.records) full
        where
          idle : slice_get w.calls c.0 ≡ Some None
          idle = (startable w c number n call e).idle

          both : (a b : Bool) → IsKept w client
              (if a then after_bump_load w else (if b then after_bump_load w else after_call_began w c n call))
          both true b = record { floor = refl; busy = λ u at. (u, at) }
          both false true = record { floor = refl; busy = λ u at. (u, at) }
          both false false = started c n call idle
  moves true (Step c) up still = inl (go (waiting_result (is_down w) (slice_get w.calls c.0)))
    where
      go : (r : Result UnderWay Refusal) → IsKept w client (step_with true w c r)
      go (Err refusal) = as_it_was
      go (Ok u) = as_it_was
  moves false (Step c) up still = go (waiting_result (is_down w) (slice_get w.calls c.0)) refl
    where
      go : (r : Result UnderWay Refusal) → waiting_result (is_down w) (slice_get w.calls c.0) ≡ r
          → IsKept w client (step_with false w c r) ⊎ IsAnswering w client false (Step c) (step_with false w c r)
      go (Err refusal) e = inl as_it_was
      go (Ok u) e = stepped c u (waiting_is _ _ u e)
  moves full (Evict word) up still = inl (go (place_at w.shape word))
    where
      go : (o : Option Place) → IsKept w client (evict_with w word o)
      go None = as_it_was
      go (Some p) = record { floor = refl; busy = λ u at. (u, at) }
  moves true Crash up still = inl as_it_was
  moves false Crash up still = absurd (none_some (sym still))
  moves full Recover up still = inl (go w.recovery refl)
    where
      go : (o : Option Recovery) → w.recovery ≡ o → IsKept w client (recover_with full w o)
      go None e = as_it_was
      go (Some r) e = absurd (none_some (sym up ∙ e))

  -- so no floor falls
  pub floor_rises : (full : Bool) (act : Act ℕ) → w.recovery ≡ None → (after_attempt full w act).recovery ≡ None
      → floor_in w.queue client ≤ floor_in (after_attempt full w act).queue client
  floor_rises full act up still = elim (moves full act up still) [
    | inl kept ↦ omega (arith, kept.floor)
    | inr answering ↦
        let below = floor_below w holds log client few answering.u answering.at in
        omega (arith, below, answering.floor)
  ]
