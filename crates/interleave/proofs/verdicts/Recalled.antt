-- What holds of a verdict that a client was once given stays so, whatever the acts.
use Rattle.std.proofs.Common.{◌≡◌, ℕ, ◌<◌, ◌≤◌, ◌⊎◌, ◌==◌, inl, inr, Bool, true, false, if◌then◌else◌, List, Option}
use Rattle.std.proofs.Common.{Some, None}
use Rattle.std.proofs.Common.{Result, Ok, Err, slice_get, slice_index_or, refl, sym, ap, ◌∙◌, subst, arith}
use Rattle.std.specs.Prelude.{is_some}
use Rattle.words.specs.declared.call.Client.{Client}
use Rattle.words.specs.declared.call.Kind.TheVariants.{Log as log_kind}
use Rattle.words.specs.declared.call.Reply.{Reply}
use Rattle.words.specs.declared.limits.TheConstants.{MAX_CLIENTS}
use Rattle.words.specs.declared.refusal.Refusal.{Refusal}
use Rattle.words.specs.declared.told.Outcome.{Outcome}
use Rattle.words.specs.declared.told.Outcome.TheVariants.{NotTaken, Taken}
use Rattle.words.specs.declared.told.Told.{Told}
use Rattle.words.specs.declared.told.Told.TheVariants.{None as told_none, Verdict as told_verdict, Row as told_row}
use Rattle.words.specs.declared.told.Verdict.{Verdict}
use Rattle.interleave.specs.LogQueue.{floor_from, floor_of}
use Rattle.arena.specs.Layout.{place_at}
use Rattle.arena.specs.declared.place.Place.{Place}
use Rattle.recover.specs.declared.recovery.Recovery.{Recovery}
use Rattle.events.specs.History.{CallAt}
use Rattle.events.specs.declared.event.Entry.{Entry}
use Rattle.events.specs.declared.event.Event.{Event}
use Rattle.events.proofs.Facts.{contains_from_in, get_longer, in_from_contains, in_part}
use Rattle.protocol.proofs.Facts.{no_calls}
use Rattle.protocol.specs.declared.UnderWay.{UnderWay}
use Rattle.protocol.specs.declared.acts.Act.{Act}
use Rattle.protocol.specs.declared.acts.Act.TheVariants.{Start, Step, Evict, Crash, Recover}
use Rattle.interleave.specs.Calls.{waiting_result}
use Rattle.interleave.specs.Holds.{Holds, from_invariant}
use Rattle.interleave.specs.Numbers.{HasNumber}
use Rattle.interleave.specs.Standing.{GoesOn}
use Rattle.interleave.specs.State.{State, machine, after_attempt, after_bump_load, after_call_began, evict_with}
use Rattle.interleave.specs.State.{is_down, number_to_start, order_in, recover_with, start_with, step_with}
use Rattle.interleave.specs.State.{used_by}
use Rattle.interleave.specs.Verdicts.{IsRecalled, IsReplyOf, IsToldAbove, floor_by, floor_in, kept_told, told_as}
use Rattle.interleave.proofs.machine.Outcomes.{goes_on_after}
use Rattle.interleave.proofs.recovery.Downtime.{became_ready, start_down, step_down}
use Rattle.interleave.proofs.runs.Attempts.{crash_down, down_evicted}
use Rattle.interleave.proofs.verdicts.Acts.{floor_below, floor_ready, told_after}
use Rattle.interleave.proofs.verdicts.Moves.{floor_rises}
use Rattle.interleave.proofs.verdicts.Tells.{IsToldOfNumber}

none_some : {X : Type 0} {x : X} → None ≡ Some x → ⊥
none_some e = cc

-- no act changes what the base told
pub base_stays : (full : Bool) (w : State) (act : Act ℕ) → (after_attempt full w act).told ≡ w.told
base_stays full w (Start c number call) = go (number_to_start w c number call)
  where
    go : (r : Result ℕ Refusal) → (start_with full w c call r).told ≡ w.told
    go (Err refusal) = refl
    go (Ok n) = both (used_by w c == w.shape.records) full
      where
        both : (a b : Bool)
            → (if a then after_bump_load w else (if b then after_bump_load w else after_call_began w c n call)).told
            ≡ w.told
        both true b = refl
        both false true = refl
        both false false = refl
base_stays full w (Step c) = go (waiting_result (is_down w) (slice_get w.calls c.0)) full
  where
    go : (r : Result UnderWay Refusal) (f : Bool) → (step_with f w c r).told ≡ w.told
    go (Err refusal) f = refl
    go (Ok u) true = refl
    go (Ok u) false = refl
base_stays full w (Evict word) = go (place_at w.shape word)
  where
    go : (o : Option Place) → (evict_with w word o).told ≡ w.told
    go None = refl
    go (Some p) = refl
base_stays true w Crash = refl
base_stays false w Crash = refl
base_stays full w Recover = go w.recovery full
  where
    go : (o : Option Recovery) (f : Bool) → (recover_with f w o).told ≡ w.told
    go None f = refl
    go (Some r) true = refl
    go (Some r) false = refl

-- the reply of a number stays, where the history goes on
pub reply_on : (old new : State) (client : Client) (number : ℕ) (reply : Reply) → GoesOn old new
    → new.told ≡ old.told → IsReplyOf old client number reply → IsReplyOf new client number reply
reply_on old new client number reply goes told (inl taken) =
    let e : Entry = record { place = taken.place; reply = reply } in
    let has : HasNumber new.log.events client taken.place number = (
      taken.has_number.0,
      subst (λ (es : List Event). CallAt es taken.place client number taken.has_number.0) (sym goes.grown.is)
          (get_longer old.log.events goes.grown.rest taken.place _ taken.has_number.1),
    ) in
    inl (record {
      place = taken.place;
      has_number = has;
      taken = contains_from_in (order_in new) e
          (in_part e goes.part (in_from_contains (order_in old) e taken.taken));
    })
reply_on old new client number reply goes told (inr by_base) =
    inr (ap (λ (ts : List Told). slice_get ts client.0) told ∙ by_base)

-- a verdict of a number above a floor
above_floor : (floor number : ℕ) (told : Told) → IsToldOfNumber number told → floor < number → IsToldAbove floor told
above_floor floor number (told_verdict verdict) is lt = omega (arith, is, lt)
above_floor floor number (told_row row) is lt = is
above_floor floor number told_none is lt = is

-- gives one that is not below it
pub floor_of_above : (floor : ℕ) (told : Told) → IsToldAbove floor told → floor ≤ floor_of told
floor_of_above floor (told_verdict verdict) above = go verdict.outcome
  where
    go : (outcome : Outcome) → floor ≤ floor_from verdict.number outcome
    go (Taken reply) = omega (arith, above)
    go NotTaken = omega (arith, above)
floor_of_above floor (told_row row) above = absurd above
floor_of_above floor told_none above = absurd above

-- where a call is under way, the queue is ready
pub up_if_called : (w : State) → Holds w → (client : Client) (u : UnderWay)
    → slice_index_or w.calls client.0 None ≡ Some u → w.recovery ≡ None
up_if_called w holds client u at = go w.recovery refl
  where
    go : (o : Option Recovery) → w.recovery ≡ o → w.recovery ≡ None
    go None e = e
    go (Some r) e = absurd (none_some (sym (no_calls (machine w) (from_invariant _ holds.inv) r e client.0) ∙ at))

-- where an act ends recovery, floors are by what the kept words tell
floor_when_ready : (full : Bool) (w : State) (act : Act ℕ) → Holds w → w.shape.kind ≡ log_kind → (client : Client)
    → client.0 < MAX_CLIENTS → is_down w ≡ true → is_down (after_attempt full w act) ≡ false
    → floor_in (after_attempt full w act).queue client ≡ floor_of (kept_told (after_attempt full w act) client)
floor_when_ready full w (Start c number call) holds log client few down up =
    absurd (cc (start_down full w c number call ∙ down, up))
floor_when_ready full w (Step c) holds log client few down up = absurd (cc (step_down full w c ∙ down, up))
floor_when_ready full w (Evict word) holds log client few down up = absurd (cc (down_evicted w word ∙ down, up))
floor_when_ready full w Crash holds log client few down up = absurd (cc (crash_down full w down, up))
floor_when_ready full w Recover holds log client few down up =
    floor_ready full w holds (became_ready full w down up) log client few

module _ (full : Bool) (w : State) (act : Act ℕ) (holds : Holds w) (log : w.shape.kind ≡ log_kind) (client : Client)
    (few : client.0 < MAX_CLIENTS) (last : Option Verdict) (recalled : IsRecalled w client last) where
  abbrev new : State
  new = after_attempt full w act

  told_still : (kept_told new client ≡ told_as last) ⊎ IsToldAbove (floor_by last) (kept_told new client)
  told_still = elim (told_after w holds log client few full act) [
    | inl same ↦ elim recalled.told [
      | inl told ↦ inl (same ∙ told)
      | inr above ↦ inr (subst (IsToldAbove (floor_by last)) (sym same) above)
    ]
    | inr own ↦ inr (above_floor (floor_by last) own.u.begun.number (kept_told new client) own.number
        (below own.u own.at))
  ]
    where
      below : (u : UnderWay) → slice_index_or w.calls client.0 None ≡ Some u
          → floor_by last < u.begun.number
      below u at =
          let over = floor_below w holds log client few u at in
          let least = recalled.floor (up_if_called w holds client u at) in
          omega (arith, over, least)

  floor_still : new.recovery ≡ None → floor_by last ≤ floor_in new.queue client
  floor_still still = go w.recovery refl
    where
      go : (o : Option Recovery) → w.recovery ≡ o → floor_by last ≤ floor_in new.queue client
      go None up =
          let rises = floor_rises w holds log client few full act up still in
          let least = recalled.floor up in
          omega (arith, rises, least)
      go (Some r) down =
          let floor = floor_when_ready full w act holds log client few (ap (λ (x : Option Recovery). is_some x) down)
          (ap (λ (x : Option Recovery). is_some x) still) in
          elim told_still [
            | inl told ↦
                let same : floor_of (kept_told new client) ≡ floor_by last = ap floor_of told in
                omega (arith, floor, same)
            | inr above ↦
                let least = floor_of_above (floor_by last) (kept_told new client) above in
                omega (arith, floor, least)
          ]

  pub recalled_after : IsRecalled new client last
  recalled_after = record {
    reply = λ number reply is.
        reply_on w new client number reply (goes_on_after full w act holds) (base_stays full w act)
        (recalled.reply number reply is);
    told = told_still;
    floor = floor_still;
  }
