-- What is kept for the clients of a slot's queue stays right over the acts on it.
use Rattle.std.proofs.Common.{◌≡◌, ℕ, zero, suc, ◌<◌, Bool, true, false, is_some, Option, Some, None, Ok, replicate, slice_get, refl, sym, ap, subst, ◌∙◌, arith}
use Rattle.words.specs.declared.call.Client.{Client}
use Rattle.words.specs.declared.call.Kind.{Kind}
use Rattle.words.specs.declared.call.Kind.TheVariants.{Log as log_kind}
use Rattle.words.specs.declared.call.Reply.{Reply}
use Rattle.words.specs.declared.limits.TheConstants.{MAX_CLIENTS}
use Rattle.words.specs.declared.told.Told.TheVariants.{None as told_none}
use Rattle.words.specs.declared.told.Verdict.{Verdict}
use Rattle.interleave.specs.LogQueue.{verdict_of}
use Rattle.persist.specs.Memory.{Words}
use Rattle.arena.specs.Shape.{Shape}
use Rattle.protocol.specs.declared.acts.Act.{Act}
use Rattle.protocol.specs.declared.acts.Act.TheVariants.{Step}
use Rattle.recover.specs.declared.recovery.Recovery.{Recovery}
use Rattle.interleave.specs.Holds.{Holds}
use Rattle.interleave.specs.Queue.{new_queue, told_in}
use Rattle.interleave.specs.Rotation.{after_rotation, rotate_result}
use Rattle.interleave.specs.State.{State, after_attempt, after_recover, recover_with, step_result, world_over}
use Rattle.interleave.specs.Verdicts.{IsLast, IsRecalled, IsRested}
use Rattle.interleave.proofs.Facts.{became_ready, last_after, last_new, last_rotated, no_call, one_verdict}
use Rattle.interleave.proofs.Facts.{recalled_after, recalled_last, recalled_none, recalled_rotated, rested_at_ready}
use Rattle.interleave.proofs.Facts.{uncounted}
use Rattle.named.specs.Brokers.{quiet}
use Rattle.session.specs.Sessions.{AreVerdictsRight, IsSlotRight}
use Rattle.named.proofs.Facts.{none_some}

-- nothing but the count of accesses changed
pub right_if_quiet : (up : Bool) (was now : Option State) (kept : ℕ → Option Verdict) → quiet now ≡ quiet was
    → IsSlotRight up was kept → IsSlotRight up now kept
right_if_quiet up None None kept e is = is
right_if_quiet up None (Some v) kept e is = absurd (cc (e))
right_if_quiet up (Some w) None kept e is = absurd (cc (e))
right_if_quiet up (Some w) (Some v) kept e is = λ log. right (is (ap (λ (x : State). x.shape.kind) (sym same) ∙ log))
  where
    same : uncounted v ≡ uncounted w
    same = cc (e)

    shape : v.shape ≡ w.shape
    shape = ap (λ (x : State). x.shape) same

    few : (client : Client) → client.0 < v.shape.clients → client.0 < w.shape.clients
    few client lt = subst (λ (s : Shape). client.0 < s.clients) shape lt

    right : AreVerdictsRight up w kept → AreVerdictsRight up v kept
    right r = record {
      recalled = λ client lt. (one_verdict v w same).recalled client (kept client.0) (r.recalled client (few client lt));
      last = λ is_up client lt. (one_verdict v w same).last client (kept client.0) (r.last is_up client (few client lt));
      rested = λ down ready.
          (one_verdict v w same).rested (r.rested down (ap (λ (x : State). x.recovery) (sym same) ∙ ready));
    }

-- an act on the queue itself
module _ (full : Bool) (w : State) (act : Act ℕ) (holds : Holds w) (kept : ℕ → Option Verdict)
    (shape : (after_attempt full w act).shape ≡ w.shape) where
  abbrev new : State
  new = after_attempt full w act

  log_was : new.shape.kind ≡ log_kind → w.shape.kind ≡ log_kind
  log_was log = ap (λ (s : Shape). s.kind) (sym shape) ∙ log

  few_was : (client : Client) → client.0 < new.shape.clients → client.0 < w.shape.clients
  few_was client lt = subst (λ (s : Shape). client.0 < s.clients) shape lt

  few_of : (client : Client) → client.0 < new.shape.clients → client.0 < MAX_CLIENTS
  few_of client lt = let below = few_was client lt in omega (arith, below, holds.safe.few)

  -- where the broker is ready, an act that answers no call
  pub right_unanswered : w.recovery ≡ None → new.recovery ≡ None
      → ((client : Client) (reply : Reply) → act ≡ Step client → step_result full w client ≡ Ok (Some reply) → ⊥)
      → IsSlotRight true (Some w) kept → IsSlotRight true (Some new) kept
  right_unanswered was_up is_up unanswered is = λ log.
      let r = is (log_was log) in
      record {
        recalled = λ client lt.
            recalled_after full w act holds (log_was log) client (few_of client lt) (kept client.0)
            (r.recalled client (few_was client lt));
        last = λ up client lt.
            last_after full w act holds (log_was log) client (few_of client lt) (kept client.0) was_up is_up
            (unanswered client) (r.last up client (few_was client lt));
        rested = λ down. absurd (cc (down));
      }

  -- where the broker is down after it, what is told is still to come
  pub right_down : (up : Bool) → (new.shape.kind ≡ log_kind → new.recovery ≡ None → IsRested new)
      → IsSlotRight up (Some w) kept → IsSlotRight false (Some new) kept
  right_down up rests is = λ log.
      let r = is (log_was log) in
      record {
        recalled = λ client lt.
            recalled_after full w act holds (log_was log) client (few_of client lt) (kept client.0)
            (r.recalled client (few_was client lt));
        last = λ false_up. absurd (cc (false_up));
        rested = λ down. rests log;
      }

-- what each client was told in a queue where nobody has called since is kept
pub right_as_told : (w : State) → Holds w → w.recovery ≡ None → (w.shape.kind ≡ log_kind → IsRested w)
    → (kept : ℕ → Option Verdict)
    → ((client : Client) → client.0 < w.shape.clients → kept client.0 ≡ verdict_of (slice_get (told_in w.queue) client.0))
    → IsSlotRight true (Some w) kept
right_as_told w holds up rests kept as_told = λ log. record {
  recalled = λ client lt.
      recalled_last w holds log client (few client lt) (kept client.0) up ((rests log).nobody client) (last log client lt);
  last = λ is_up client lt. last log client lt;
  rested = λ down. absurd (cc (down));
}
  where
    few : (client : Client) → client.0 < w.shape.clients → client.0 < MAX_CLIENTS
    few client lt = omega (arith, lt, holds.safe.few)

    last : w.shape.kind ≡ log_kind → (client : Client) → client.0 < w.shape.clients → IsLast w client (kept client.0)
    last log client lt =
        subst (λ (v : Option Verdict). IsLast w client v) (sym (as_told client lt)) ((rests log).last client (few client lt))

-- a queue of whose clients nothing is kept, while the broker recovers
pub right_if_untold : (w : State) → Holds w → (kept : ℕ → Option Verdict) → ((client : ℕ) → kept client ≡ None)
    → (w.shape.kind ≡ log_kind → w.recovery ≡ None → IsRested w) → IsSlotRight false (Some w) kept
right_if_untold w holds kept none rests = λ log. record {
  recalled = λ client lt.
      subst (λ (v : Option Verdict). IsRecalled w client v) (sym (none client.0))
      (recalled_none w holds log client (omega (arith, lt, holds.safe.few)));
  last = λ up. absurd (cc (up));
  rested = λ down. rests log;
}

-- a queue that recovers, and of whose clients nothing is kept
pub right_if_none : (w : State) (r : Recovery) → Holds w → w.recovery ≡ Some r → (kept : ℕ → Option Verdict)
    → ((client : ℕ) → kept client ≡ None) → IsSlotRight false (Some w) kept
right_if_none w r holds down kept none =
    right_if_untold w holds kept none (λ log up. absurd (none_some (sym up ∙ down)))

-- a new queue, of whose clients nothing is kept
pub right_if_new : (s : Shape) (ws : Words) → Holds (world_over s ws) → (kept : ℕ → Option Verdict)
    → ((client : ℕ) → kept client ≡ None) → IsSlotRight true (Some (world_over s ws)) kept
right_if_new s ws holds kept none = λ log. record {
  recalled = λ client lt.
      subst (λ (v : Option Verdict). IsRecalled (world_over s ws) client v) (sym (none client.0))
      (recalled_none (world_over s ws) holds log client (omega (arith, lt, holds.safe.few)));
  last = λ up client lt.
      subst (λ (v : Option Verdict). IsLast (world_over s ws) client v) (sym (none client.0))
      (last_new s ws holds log client (omega (arith, lt, holds.safe.few)));
  rested = λ down. absurd (cc (down));
}

-- another history begins
pub right_rotated : (full : Bool) (w : State) → Holds w → rotate_result full w ≡ Ok tt → (kept : ℕ → Option Verdict)
    → IsSlotRight true (Some w) kept → IsSlotRight true (Some (after_rotation w)) kept
right_rotated full w holds rotates kept is = λ log.
    let r = is log in
    record {
      recalled = λ client lt.
          recalled_rotated full w client (kept client.0) holds log (omega (arith, lt, holds.safe.few)) rotates
          (r.last refl client lt) (r.recalled client lt);
      last = λ up client lt. last_rotated full w client (kept client.0) rotates (r.last up client lt);
      rested = λ down. absurd (cc (down));
    }

-- a step of a queue's recovery leaves it at rest where it is ready by it, or was
pub rested_recovered : (full : Bool) (w : State) → Holds w → w.shape.kind ≡ log_kind
    → (w.recovery ≡ None → IsRested w) → (after_recover full w).recovery ≡ None → IsRested (after_recover full w)
rested_recovered full w holds log rests ready = go w.recovery refl
  where
    go : (o : Option Recovery) → w.recovery ≡ o → IsRested (after_recover full w)
    go None e =
        let same : after_recover full w ≡ w = ap (recover_with full w) e in
        subst IsRested (sym same) (rests e)
    go (Some r) e =
        rested_at_ready full w holds log
        (became_ready full w (ap (λ (o : Option Recovery). is_some o) e) (ap (λ (o : Option Recovery). is_some o) ready))

-- nobody has called a new queue
none_told : (n t : ℕ) → verdict_of (slice_get (replicate n told_none) t) ≡ None
none_told zero t = refl
none_told (suc n) zero = refl
none_told (suc n) (suc t) = none_told n t

pub rested_new : (s : Shape) (ws : Words) → Holds (world_over s ws) → s.kind ≡ log_kind → IsRested (world_over s ws)
rested_new s ws holds log = record {
  nobody = λ client. no_call s.clients client.0;
  last = λ client few.
      subst (λ (v : Option Verdict). IsLast (world_over s ws) client v) (sym (told client)) (last_new s ws holds log client few);
}
  where
    told : (client : Client) → verdict_of (slice_get (told_in (world_over s ws).queue) client.0) ≡ None
    told client =
        ap (λ (k : Kind). verdict_of (slice_get (told_in (new_queue k s.clients)) client.0)) log ∙ none_told MAX_CLIENTS client.0
