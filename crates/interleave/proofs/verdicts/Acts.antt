-- What each act leaves of what the kept words tell a log queue's client, and of its floor.
use Rattle.std.proofs.Common.{◌≡◌, ℕ, ◌<◌, ◌⊎◌, ◌==◌, inl, inr, Bool, true, false, if◌then◌else◌, List}
use Rattle.std.proofs.Common.{Option, Some, None, Result, Ok, Err, slice_get, slice_index_or, refl}
use Rattle.std.proofs.Common.{sym, ap, ◌∙◌, subst, arith}
use Rattle.std.specs.Prelude.{is_some}
use Rattle.std.proofs.lemmas.Grind.{get_or-set_at}
use Rattle.words.specs.declared.call.Client.{Client}
use Rattle.words.specs.declared.call.Kind.{Kind}
use Rattle.words.specs.declared.call.Kind.TheVariants.{Log as log_kind}
use Rattle.words.specs.declared.call.Reply.{Reply}
use Rattle.words.specs.declared.limits.TheConstants.{MAX_CLIENTS}
use Rattle.words.specs.declared.refusal.Refusal.{Refusal}
use Rattle.words.specs.declared.told.Told.{Told}
use Rattle.interleave.specs.LogQueue.{floor_of}
use Rattle.arena.specs.Layout.{place_at}
use Rattle.arena.specs.Shape.{Shape}
use Rattle.arena.specs.declared.place.Place.{Place}
use Rattle.stepper.specs.declared.resume.After.{After}
use Rattle.stepper.specs.declared.resume.After.TheVariants.{More, Done}
use Rattle.recover.specs.declared.recovery.Recovery.{Recovery}
use Rattle.protocol.specs.Machine.{World, next_recovery, recovery_left, with_eviction, with_step}
use Rattle.protocol.specs.declared.UnderWay.{UnderWay}
use Rattle.protocol.specs.declared.acts.Act.{Act}
use Rattle.protocol.specs.declared.acts.Act.TheVariants.{Start, Step, Evict, Crash, Recover}
use Rattle.protocol.specs.invariants.Worlds.{Inv}
use Rattle.protocol.proofs.Facts.{no_calls}
use Rattle.interleave.specs.Calls.{waiting_result}
use Rattle.interleave.specs.Floors.{AreFloorsRightIn}
use Rattle.interleave.specs.Holds.{Holds, from_invariant}
use Rattle.interleave.specs.Numbers.{AreNumbersRisingIn}
use Rattle.interleave.specs.Queue.{told_to}
use Rattle.interleave.specs.Ranges.{IsOfKind}
use Rattle.interleave.specs.State.{State, machine, after_attempt, after_bump_load, after_call_began, after_evict}
use Rattle.interleave.specs.State.{after_one_access, after_recover, after_step, evict_with, is_down}
use Rattle.interleave.specs.State.{is_ready as says_ready, kept_tells, number_to_start, order_in}
use Rattle.interleave.specs.State.{queue_left, recover_result, recover_result_with, recover_with, start_with, step_with}
use Rattle.interleave.specs.State.{used_by}
use Rattle.interleave.specs.Verdicts.{IsIdle, floor_in, kept_told}
use Rattle.interleave.specs.declared.queue.Queue.{Queue}
use Rattle.interleave.specs.declared.queue.Queue.TheVariants.{Durable, Log}
use Rattle.interleave.proofs.machine.Holding.{evicted_is, gone_on_is, holds_after_recover, may_step, waiting_is}
use Rattle.interleave.proofs.words.KeptWords.{tells_crashed, tells_evicted, tells_on}
use Rattle.interleave.proofs.verdicts.Steps.{IsToldStill, machine_told, told_evicted, told_stepped}
use Rattle.interleave.proofs.verdicts.Tells.{IsToldOfNumber, kept_is}

-- what is told is of the call that the client has under way
pub record IsOwnTold (w : State) (client : Client) (told : Told) : Type 0 where
  pub u : UnderWay
  pub at : slice_index_or w.calls client.0 None ≡ Some u
  pub number : IsToldOfNumber u.begun.number told

-- a client is told the same still, or of its own call
abbrev pub StaysTold : State → Client → State → Type 0
StaysTold old client new =
    (kept_told new client ≡ kept_told old client) ⊎ IsOwnTold old client (kept_told new client)

same_tells : (old new : State) (client : Client) → kept_tells new ≡ kept_tells old → StaysTold old client new
same_tells old new client same = inl (ap (λ (ts : List Told). told_to ts client) same)

module _ (w : State) (holds : Holds w) (log : w.shape.kind ≡ log_kind) (client : Client)
    (few : client.0 < MAX_CLIENTS) where
  inv : Inv (machine w)
  inv = from_invariant _ holds.inv

  -- what the words of a machine tell are those of the world
  told_so : (new : State) (m : World) → machine new ≡ m → IsToldStill (machine w) client (machine_told m client)
      → StaysTold w client new
  told_so new m is told =
      let same : kept_told new client ≡ machine_told m client =
      kept_is new client few ∙ ap (λ (v : World). machine_told v client) is in
      elim told [
        | inl stays ↦ inl (same ∙ stays ∙ sym (kept_is w client few))
        | inr own ↦ inr (record {
          u = own.0;
          at = own.1;
          number = subst (IsToldOfNumber own.0.begun.number) (sym same) own.2;
        })
      ]

  tells_gone_on : (c : Client) (u : UnderWay) → slice_get w.calls c.0 ≡ Some (Some u)
      → StaysTold w client (after_one_access w c u)
  tells_gone_on c u here =
      told_so (after_one_access w c u) (with_step (machine w) c u) (gone_on_is w c u holds here)
      (told_stepped (machine w) inv log c u (may_step w c u holds here) client few)

  tells_kept : (word : ℕ) (p : Place) → place_at w.shape word ≡ Some p → w.recovery ≡ None
      → StaysTold w client (evict_with w word (Some p))
  tells_kept word p named up =
      told_so (evict_with w word (Some p)) (with_eviction (machine w) p) (evicted_is w word p holds named)
      (told_evicted (machine w) inv log p up client few)

  tells_stepped : (full : Bool) (c : Client) → StaysTold w client (after_step full w c)
  tells_stepped full c = go (waiting_result (is_down w) (slice_get w.calls c.0)) refl full
    where
      go : (r : Result UnderWay Refusal) → waiting_result (is_down w) (slice_get w.calls c.0) ≡ r → (f : Bool)
          → StaysTold w client (step_with f w c r)
      go (Err refusal) e f = inl refl
      go (Ok u) e true = inl refl
      go (Ok u) e false = tells_gone_on c u (waiting_is _ _ u e)

  tells_of_evicted : (word : ℕ) → StaysTold w client (after_evict w word)
  tells_of_evicted word = go w.recovery refl (place_at w.shape word) refl
    where
      go : (r : Option Recovery) → w.recovery ≡ r → (o : Option Place) → place_at w.shape word ≡ o
          → StaysTold w client (evict_with w word o)
      go r e None named = inl refl
      go None e (Some p) named = tells_kept word p named e
      go (Some r) e (Some p) named =
          subst (λ o. StaysTold w client (evict_with w word o)) named
          (same_tells w (after_evict w word) client (tells_evicted w word holds (ap is_some e)).0)

  -- whatever the act
  pub told_after : (full : Bool) (act : Act ℕ) → StaysTold w client (after_attempt full w act)
  told_after full (Start c number call) = go (number_to_start w c number call)
    where
      go : (r : Result ℕ Refusal) → StaysTold w client (start_with full w c call r)
      go (Err refusal) = inl refl
      go (Ok n) = both (used_by w c == w.shape.records) full
        where
          both : (a b : Bool) → StaysTold w client
              (if a then after_bump_load w else (if b then after_bump_load w else after_call_began w c n call))
          both true b = inl refl
          both false true = inl refl
          both false false = inl refl
  told_after full (Step c) = tells_stepped full c
  told_after full (Evict word) = tells_of_evicted word
  told_after full Crash = same_tells w (after_attempt full w Crash) client (tells_crashed full w).0
  told_after full Recover = same_tells w (after_recover full w) client (tells_on full w holds).0

  -- a call under way has a number above the floor
  pub floor_below : (u : UnderWay) → slice_index_or w.calls client.0 None ≡ Some u
      → floor_in w.queue client < u.begun.number
  floor_below u at = go w.queue holds.kind holds.floors
    where
      go : (queue : Queue) → IsOfKind w.shape.kind queue → AreFloorsRightIn queue (machine w)
          → floor_in queue client < u.begun.number
      go (Log clients) is fit = fit.above client u at
      go (Durable reports) is fit = absurd (subst (λ (k : Kind). IsOfKind k (Durable reports)) log is)

  -- which becomes the floor when the call is answered
  pub floor_answered : (u : UnderWay) (reply : Reply) → u.begun.client.0 ≡ client.0
      → floor_in (queue_left w.queue u (Done reply)) client ≡ u.begun.number
  floor_answered u reply who = go w.queue holds.kind holds.numbers
    where
      go : (queue : Queue) → IsOfKind w.shape.kind queue
          → AreNumbersRisingIn queue w.told w.log.events (order_in w)
          → floor_in (queue_left queue u (Done reply)) client ≡ u.begun.number
      go (Log clients) is v =
          get_or-set_at clients.floors u.begun.client.0 client.0 u.begun.number 0 (sym who)
          (omega (arith, few, who, v.sixteen))
      go (Durable reports) is v = absurd (subst (λ (k : Kind). IsOfKind k (Durable reports)) log is)

-- of an idle client the floor is by what the kept words tell
pub floor_idle : (w : State) → Holds w → w.shape.kind ≡ log_kind → (client : Client) → client.0 < MAX_CLIENTS
    → w.recovery ≡ None → IsIdle w client → floor_in w.queue client ≡ floor_of (kept_told w client)
floor_idle w holds log client few up idle = go w.queue holds.kind holds.floors ∙ ap floor_of (sym (kept_is w client few))
  where
    go : (queue : Queue) → IsOfKind w.shape.kind queue → AreFloorsRightIn queue (machine w)
        → floor_in queue client ≡ floor_of (machine_told (machine w) client)
    go (Log clients) is fit = fit.told up client few idle
    go (Durable reports) is fit = absurd (subst (λ (k : Kind). IsOfKind k (Durable reports)) log is)

-- once recovery has ended, nobody has called
module _ (full : Bool) (w : State) (holds : Holds w) (is : recover_result full w ≡ Ok true) where
  pub nobody_ready : (client : Client) → IsIdle (after_recover full w) client
  nobody_ready client = go w.recovery refl full is
    where
      go : (o : Option Recovery) → w.recovery ≡ o → (f : Bool) → recover_result_with f w o ≡ Ok true
          → IsIdle (recover_with f w o) client
      go None e f is = cc
      go (Some r) e true is = cc
      go (Some r) e false is = no_calls (machine w) (from_invariant _ holds.inv) r e client.0

  pub up_ready : (after_recover full w).recovery ≡ None
  up_ready = go w.recovery full is
    where
      ended : (next : After Recovery (List Told)) → says_ready next ≡ true → recovery_left next ≡ None
      ended (More r) ready = cc
      ended (Done told) ready = refl

      go : (o : Option Recovery) (f : Bool) → recover_result_with f w o ≡ Ok true → (recover_with f w o).recovery ≡ None
      go None f is = cc
      go (Some r) true is = cc
      go (Some r) false is =
          ended (next_recovery (machine w) r) (let same : says_ready (next_recovery (machine w) r) ≡ true = cc in same)

  shape_ready : (after_recover full w).shape ≡ w.shape
  shape_ready = go w.recovery full
    where
      go : (o : Option Recovery) (f : Bool) → (recover_with f w o).shape ≡ w.shape
      go None f = refl
      go (Some r) true = refl
      go (Some r) false = refl

  pub log_ready : w.shape.kind ≡ log_kind → (after_recover full w).shape.kind ≡ log_kind
  log_ready log = ap (λ (s : Shape). s.kind) shape_ready ∙ log

  -- so each floor is by what the kept words tell
  pub floor_ready : w.shape.kind ≡ log_kind → (client : Client) → client.0 < MAX_CLIENTS
      → floor_in (after_recover full w).queue client ≡ floor_of (kept_told (after_recover full w) client)
  floor_ready log client few =
      floor_idle (after_recover full w) (holds_after_recover full w holds) (log_ready log) client few up_ready
      (nobody_ready client)
