-- A session stays right where a queue begins in fresh records.
use Rattle.std.proofs.Common.{◌≡◌, ℕ, ◌<◌, inl, inr, Bool, true, false, not, is_some, List, Option, Some, None, Result, Ok, Err, slice_get, refl, sym, ap, subst, ◌∙◌}
use Rattle.std.specs.Prelude.{IsSome, OnErr, OnOk, unwrap_or}
use Rattle.words.specs.declared.call.Client.{Client}
use Rattle.words.specs.declared.refusal.Refusal.{Refusal}
use Rattle.words.specs.declared.told.Told.{Told}
use Rattle.words.specs.declared.told.Told.TheVariants.{None as told_none, Verdict as told_verdict}
use Rattle.words.specs.declared.told.Verdict.{Verdict}
use Rattle.arena.specs.Shape.{Shape}
use Rattle.interleave.specs.Queue.{told_to}
use Rattle.interleave.specs.Rotation.{IsQuiet}
use Rattle.interleave.specs.State.{State, kept_tells}
use Rattle.interleave.specs.Verdicts.{IsRecalled, kept_told, taken_as, told_as}
use Rattle.interleave.proofs.Facts.{quiet_at}
use Rattle.named.specs.Brokers.{Brokered, IsWell, world_at}
use Rattle.named.specs.Renewing.{BeginsOn, IsRenewedAt, MayRenew}
use Rattle.named.specs.declared.recovery.BrokerRecovery.{BrokerRecovery}
use Rattle.recover.specs.declared.recovery.Recovery.{Recovery}
use Rattle.session.specs.Keeping.{SessionGoesOn}
use Rattle.session.specs.Sessions.{AreVerdictsRight, IsRight, IsSlotRight, Sessioned, kept_in}
use Rattle.session.proofs.calls.SlotCalls.{up_is}
use Rattle.session.proofs.calls.Clients.{goes_on_kept}
use Rattle.session.proofs.brokers.Histories.{unchanged_right, up_rotates, world_at_rest}

-- a verdict that a list of tellings has for a client stands in it
verdict_in : (tells : List Told) (client : Client) (v : Verdict) → told_to tells client ≡ told_verdict v → slice_get tells client.0 ≡ Some (told_verdict v)
verdict_in tells client v e = go (slice_get tells client.0) e
  where
    go : (o : Option Told) → unwrap_or o told_none ≡ told_verdict v → o ≡ Some (told_verdict v)
    go None e = absurd (cc (e))
    go (Some told) e = ap (λ (t : Told). let o : Option Told = Some t in o) e

not_up : (r : Option Recovery) → IsSome r → r ≡ None → ⊥
not_up None down up = absurd (cc (down))
not_up (Some r) down up = absurd (cc (up))

-- a world that begins on what another tells recalls what that one did, where nobody called it
module _ (w : State) (now : State) (kept : ℕ → Option Verdict) (quiet : IsQuiet w)
    (told : now.told ≡ kept_tells w) (tells : kept_tells now ≡ kept_tells w) (shape : now.shape ≡ w.shape) (down : IsSome now.recovery)
    (right : AreVerdictsRight true w kept) where
  recalled : (client : Client) → client.0 < w.shape.clients → IsRecalled now client (kept client.0)
  recalled client lt =
      let last : kept_told w client ≡ told_as (kept client.0) = (right.last refl client lt).told (quiet.nobody client.0) in
      record {
        reply = λ number reply is.
            let says : kept_told w client ≡ told_verdict (taken_as number reply) = last ∙ ap told_as is in
            inr (ap (λ (l : List Told). slice_get l client.0) told ∙ verdict_in (kept_tells w) client (taken_as number reply) says);
        told = inl (ap (λ (l : List Told). told_to l client) tells ∙ last);
        floor = λ up. absurd (not_up now.recovery down up);
      }

  pub right_begun : AreVerdictsRight false now kept
  right_begun = record {
    recalled = λ client lt. recalled client (subst (λ (s : Shape). client.0 < s.clients) shape lt);
    last = λ up. absurd (cc (up));
    rested = λ none up. absurd (not_up now.recovery down up);
  }

module _ (old new : Brokered) (kept : List (List (Option Verdict))) (right : IsRight (record { broker = old; kept = kept })) (slot : ℕ) where
  abbrev before : Sessioned
  before = record { broker = old; kept = kept }

  abbrev after : Sessioned
  after = record { broker = new; kept = kept }

  renewed_right : IsWell new → MayRenew old slot → IsRenewedAt old new slot → IsRight after
  renewed_right well may is = record {
    well = well;
    slots = λ at.
        subst (λ (r : Option BrokerRecovery). IsSlotRight (not (is_some r)) (world_at new at) (kept_in kept at)) (sym is.booted.recovery)
        (each at (world_at old at) refl);
  }
    where
      was : (at : ℕ) → IsSlotRight true (world_at old at) (kept_in kept at)
      was at =
          subst (λ (b : Bool). IsSlotRight b (world_at old at) (kept_in kept at)) (up_is old (up_rotates old may.rests))
          (right.slots at)

      each : (at : ℕ) (o : Option State) → world_at old at ≡ o → IsSlotRight false (world_at new at) (kept_in kept at)
      each at None e =
          subst (λ (o : Option State). IsSlotRight false o (kept_in kept at)) (sym (is.closed at e))
          (subst (λ (o : Option State). IsSlotRight true o (kept_in kept at)) e (was at))
      each at (Some w) e =
          let begun : BeginsOn w (world_at new at) = is.worlds at w e in
          let there : IsSlotRight true (Some w) (kept_in kept at) =
          subst (λ (o : Option State). IsSlotRight true o (kept_in kept at)) e (was at) in
          let quiet : IsQuiet w = quiet_at false w (world_at_rest old right.well may.rests at w e) in
          subst (λ (o : Option State). IsSlotRight false o (kept_in kept at)) (sym begun.is)
          (λ log. right_begun w begun.world (kept_in kept at) quiet begun.told begun.tells begun.shape begun.down
          (there (ap (λ (s : Shape). s.kind) (sym begun.shape) ∙ log)))

  pub right_renewed : (result : Result Unit Refusal) → IsWell new → OnOk result (MayRenew old slot) → OnOk result (IsRenewedAt old new slot)
      → OnErr result (new ≡ old) → IsRight after
  right_renewed (Err refusal) well may is same = unchanged_right old new kept right same
  right_renewed (Ok u) well may is same = renewed_right well may is

  pub renewal_goes_on : (result : Result Unit Refusal) → OnOk result (IsRenewedAt old new slot) → OnErr result (new ≡ old)
      → SessionGoesOn before after
  renewal_goes_on (Err refusal) is same =
      subst (λ (b : Brokered). SessionGoesOn before (record { broker = b; kept = kept })) (sym same)
      (record { clients = λ at client is. is; answers = λ at client number reply is answered. answered })
  renewal_goes_on (Ok u) is same =
      goes_on_kept before after refl (λ at w here.
      let begun = is.worlds at w here in record { world = begun.world; is = begun.is; shape = begun.shape })
