-- A step of recovery leaves what is kept right, and each number that was answered stays so.
use Rattle.std.proofs.Common.{◌≡◌, ◌≢◌, ℕ, ◌<◌, ◌≤◌, ◌⊎◌, inl, inr, Bool, true, false, not, is_some, List, Option, Some, None, Result, Ok, Err, slice_get, refl, sym, ap, subst, ◌∙◌, arith}
use Rattle.words.specs.declared.call.Client.{Client}
use Rattle.words.specs.declared.call.Kind.TheVariants.{Log as log_kind}
use Rattle.words.specs.declared.call.Reply.{Reply}
use Rattle.words.specs.declared.limits.TheConstants.{MAX_CLIENTS}
use Rattle.words.specs.declared.refusal.Refusal.{Refusal}
use Rattle.words.specs.declared.told.Outcome.{Outcome}
use Rattle.words.specs.declared.told.Outcome.TheVariants.{NotTaken, Taken}
use Rattle.words.specs.declared.told.Told.{Told}
use Rattle.words.specs.declared.told.Verdict.{Verdict}
use Rattle.interleave.specs.LogQueue.{floor_from, verdict_of}
use Rattle.arena.specs.declared.broker.SlotId.{SlotId}
use Rattle.interleave.specs.Calls.{is_no_memory}
use Rattle.interleave.specs.Queue.{told_in}
use Rattle.interleave.specs.State.{State, after_recover}
use Rattle.interleave.specs.Verdicts.{IsToldAbove, floor_by, taken_as, told_as}
use Rattle.named.specs.Brokers.{Brokered, IsWell, is_down, quiet, world_at}
use Rattle.named.specs.Slots.{acted}
use Rattle.named.specs.Stopping.{IsFound, IsFoundIn, IsRecoveryStep, found_by}
use Rattle.named.specs.declared.recovery.BrokerRecovery.{BrokerRecovery}
use Rattle.named.specs.declared.recovery.BrokerRecovery.TheVariants.{ReadDirectory, RecoverQueue}
use Rattle.session.specs.Keeping.{AreKeptAsHeard, IsSettled, SessionGoesOn}
use Rattle.session.specs.Sessions.{AreVerdictsRight, IsLogClient, IsRight, IsSlotRight, Sessioned, is_up, kept_in}
use Rattle.session.proofs.calls.Clients.{laid_out_each}
use Rattle.session.proofs.downtime.Crashes.{up_same}
use Rattle.session.proofs.answers.Tellings.{kept_there, right_heard}
use Rattle.named.proofs.Facts.{none_some, recovered_shape}
use Rattle.session.proofs.downtime.Recoveries.{IsAsFar, IsStepDown, step_down}
use Rattle.session.proofs.brokers.Worlds.{IsLaidOutAs, client_stays, few_there, laid_out_quiet, up_there}

-- a slot's queue is still there, laid out as it was
module _ (old new : Brokered) (slot : ℕ) (w : State) (here : world_at old slot ≡ Some w) where
  laid_out_still : quiet (world_at new slot) ≡ quiet (world_at old slot) → IsLaidOutAs w (world_at new slot)
  laid_out_still same = laid_out_quiet w (world_at new slot) (same ∙ ap quiet here)

  laid_out_in : (at : SlotId) (o : Option State) → world_at old at.0 ≡ o → IsFoundIn old new at o
      → IsLaidOutAs w (world_at new slot)
  laid_out_in at (Some v) is found = laid_out_still (found.worlds slot)
  laid_out_in at None is found =
      laid_out_each old new at.0 found.others (λ v there. absurd (none_some (sym is ∙ there))) slot w here

  laid_out_found : (o : Option SlotId) → IsFound old new o → IsLaidOutAs w (world_at new slot)
  laid_out_found None found = laid_out_still (found.worlds slot)
  laid_out_found (Some at) found = laid_out_in at (world_at old at.0) refl found

  laid_out_recovered : (at : ℕ) (full : Bool) → world_at new at ≡ acted (after_recover full) (world_at old at)
      → ((other : ℕ) → other ≢ at → quiet (world_at new other) ≡ quiet (world_at old other))
      → IsLaidOutAs w (world_at new slot)
  laid_out_recovered at full is others = laid_out_each old new at others own slot w here
    where
      own : (v : State) → world_at old at ≡ Some v → IsLaidOutAs v (world_at new at)
      own v there = record {
        world = after_recover full v;
        is = is ∙ ap (acted (after_recover full)) there;
        shape = recovered_shape full v;
      }

  pub laid_out_step : (result : Result Bool Refusal) (o : Option BrokerRecovery) → IsRecoveryStep old new result o
      → IsLaidOutAs w (world_at new slot)
  laid_out_step result None step = laid_out_still (ap (λ (b : Brokered). quiet (world_at b slot)) step.1)
  laid_out_step result (Some (ReadDirectory at)) step = laid_out_found (found_by old at).opened step.found
  laid_out_step result (Some (RecoverQueue at)) step =
      laid_out_recovered at.0 (is_no_memory result) step.world step.others

-- what is told now is what was kept, or is of a later number: so a number that was answered is answered still
answered_on : (last now : Option Verdict) (number : ℕ) (reply : Reply)
    → (told_as now ≡ told_as last) ⊎ IsToldAbove (floor_by last) (told_as now) → IsSettled last number reply
    → IsSettled now number reply
answered_on None now number reply told is = absurd is
answered_on (Some was) None number reply (inl same) is = absurd (cc (same))
answered_on (Some was) None number reply (inr above) is = absurd above
answered_on (Some was) (Some now) number reply (inl same) is =
    let one : was ≡ now = cc (same) in
    subst (λ (v : Verdict). (v ≡ taken_as number reply) ⊎ (number < v.number)) one is
answered_on (Some was) (Some now) number reply (inr above) (inl taken) =
    inr (subst (λ (v : Verdict). floor_from v.number v.outcome < now.number) taken above)
answered_on (Some was) (Some now) number reply (inr above) (inr later) = inr (go was.outcome above)
  where
    go : (outcome : Outcome) → floor_from was.number outcome < now.number → number < now.number
    go (Taken r) higher = omega (arith, higher, later)
    go NotTaken higher = omega (arith, higher, later)

module _ (s : Sessioned) (new : Brokered) (result : Result Bool Refusal) (right : IsRight s) (well : IsWell new)
    (step : IsRecoveryStep s.broker new result s.broker.recovery) where
  taken_down : (r : BrokerRecovery) → s.broker.recovery ≡ Some r → IsStepDown s.broker new s.kept result
  taken_down r is =
      let down : is_down s.broker ≡ true = ap (λ (o : Option BrokerRecovery). is_some o) is in
      step_down s.broker new s.kept result r right.well well
      (λ slot. subst (λ (d : Bool). IsSlotRight (not d) (world_at s.broker slot) (kept_in s.kept slot)) down
      (right.slots slot))
      down (subst (IsRecoveryStep s.broker new result) is step)

  -- where the broker is not ready by it
  pub right_unready : (result ≡ Ok true → ⊥) → IsRight (record s { broker = new })
  right_unready other = go s.broker.recovery refl
    where
      still : (r : BrokerRecovery) → s.broker.recovery ≡ Some r → (x : Result Bool Refusal) → result ≡ x
          → IsAsFar s.broker new x → is_up new ≡ false
      still r is (Ok true) e far = absurd (other e)
      still r is (Ok false) e far = ap not far
      still r is (Err refusal) e far =
          up_same s.broker new far ∙ ap (λ (o : Option BrokerRecovery). not (is_some o)) is

      go : (o : Option BrokerRecovery) → s.broker.recovery ≡ o → IsRight (record s { broker = new })
      go None is =
          let refused = subst (IsRecoveryStep s.broker new result) is step in
          subst (λ (b : Brokered). IsRight (record s { broker = b })) (sym refused.1) right
      go (Some r) is =
          let taken = taken_down r is in
          record {
            well = well;
            slots = λ slot.
                subst (λ (u : Bool). IsSlotRight u (world_at new slot) (kept_in s.kept slot))
                (sym (still r is result refl taken.far)) (taken.right slot);
          }

  clients_on : (slot : ℕ) (client : Client) → IsLogClient s.broker slot client → IsLogClient new slot client
  clients_on =
      client_stays s.broker new (λ slot w here.
      laid_out_step s.broker new slot w here result s.broker.recovery step)

  pub unready_goes_on : SessionGoesOn s (record s { broker = new })
  unready_goes_on = record { clients = clients_on; answers = λ slot client number reply is answered. answered }

  -- and where it is
  module _ (ready : result ≡ Ok true) where
    became : IsStepDown s.broker new s.kept result
    became = go s.broker.recovery refl
      where
        go : (o : Option BrokerRecovery) → s.broker.recovery ≡ o → IsStepDown s.broker new s.kept result
        go None is =
            let refused = subst (IsRecoveryStep s.broker new result) is step in
            absurd (cc (refused.0, ready))
        go (Some r) is = taken_down r is

    up : new.recovery ≡ None
    up = subst (IsAsFar s.broker new) ready became.far

    verdicts_at : (slot : ℕ) (w : State) → world_at new slot ≡ Some w → w.shape.kind ≡ log_kind
        → AreVerdictsRight false w (kept_in s.kept slot)
    verdicts_at slot w here log = there log
      where
        there : IsSlotRight false (Some w) (kept_in s.kept slot)
        there = subst (λ (o : Option State). IsSlotRight false o (kept_in s.kept slot)) here (became.right slot)

    module _ (kept : List (List (Option Verdict))) (heard : AreKeptAsHeard new kept)
        (beyond : (slot client : ℕ) → MAX_CLIENTS ≤ client → kept_in kept slot client ≡ None) where
      pub right_ready : IsRight (record { broker = new; kept = kept })
      right_ready =
          right_heard new well kept heard beyond up
          (λ slot w here log ready. (verdicts_at slot w here log).rested refl ready)

      answers_on : (slot : ℕ) (client : Client) (number : ℕ) (reply : Reply) → IsLogClient s.broker slot client
          → IsSettled (kept_in s.kept slot client.0) number reply
          → IsSettled (kept_in kept slot client.0) number reply
      answers_on slot client number reply is answered =
          let on = clients_on slot client is in
          let w : State = on.world in
          let r = verdicts_at slot w on.here on.log in
          let rested = r.rested refl (up_there new well slot w on.here up) in
          let few : client.0 < MAX_CLIENTS = omega (arith, on.few, few_there new well slot w on.here) in
          let last : Option Verdict = kept_in s.kept slot client.0 in
          let now : Option Verdict = verdict_of (slice_get (told_in w.queue) client.0) in
          let told : (told_as now ≡ told_as last) ⊎ IsToldAbove (floor_by last) (told_as now) =
          subst (λ (t : Told). (t ≡ told_as last) ⊎ IsToldAbove (floor_by last) t)
          ((rested.last client few).told (rested.nobody client)) (r.recalled client on.few).told in
          subst (λ (v : Option Verdict). IsSettled v number reply)
          (sym (kept_there new well kept heard beyond slot w client up on.here on.few))
          (answered_on last now number reply told answered)

      pub ready_goes_on : SessionGoesOn s (record { broker = new; kept = kept })
      ready_goes_on = record { clients = clients_on; answers = answers_on }
