-- What a log queue's client is told after a step of the machine, or an eviction: the same as before, or what became of
-- its own call; and of a call that answers its reply.
use Rattle.std.proofs.Common.{[], ◌≡◌, ℕ, ◌<◌, ◌⊎◌, ◌+◌, inl, inr, List, ◌∷◌, ◌++◌, length, Option, Some, None, refl, sym, ap}
use Rattle.std.proofs.Common.{◌∙◌, subst, arith}
use Rattle.std.specs.Prelude.{EachIndex}
use Rattle.std.proofs.lemmas.List.{length_push}
use Rattle.std.proofs.lemmas.Option.{slice_get_within}
use Rattle.words.specs.declared.call.Client.{Client}
use Rattle.words.specs.declared.call.Kind.{Kind}
use Rattle.words.specs.declared.call.Kind.TheVariants.{Log as log_kind}
use Rattle.words.specs.declared.call.Reply.{Reply}
use Rattle.words.specs.declared.limits.TheConstants.{MAX_CLIENTS}
use Rattle.words.specs.declared.told.Outcome.{Outcome}
use Rattle.words.specs.declared.told.Outcome.TheVariants.{NotTaken, Taken}
use Rattle.words.specs.declared.told.Told.{Told}
use Rattle.words.specs.declared.told.Told.TheVariants.{None as told_none, Verdict as told_verdict, Row as told_row}
use Rattle.arena.specs.Words.{announcements}
use Rattle.arena.specs.declared.place.Place.{Place}
use Rattle.stepper.specs.declared.resume.After.{After}
use Rattle.stepper.specs.declared.resume.After.TheVariants.{Done}
use Rattle.helping.specs.Table.{access_of}
use Rattle.helping.specs.declared.op.Op.{Op}
use Rattle.sound_words.specs.Told.{told_by}
use Rattle.events.specs.Effects.{order_of}
use Rattle.events.specs.History.{BeginsAt, CallAt, IsEnd, IsOpenFrom, ReturnAt}
use Rattle.events.specs.Orders.{IsNew, IsTakenAs}
use Rattle.events.specs.Telling.{IsOutcome, IsToldOf, Says}
use Rattle.events.specs.declared.event.Entry.{Entry}
use Rattle.events.specs.declared.event.Event.{Event}
use Rattle.events.specs.declared.event.Event.TheVariants.{Return as return_event}
use Rattle.events.proofs.Facts.{begins_longer, get_last, in_order_from_taken, no_end_longer, one_reply}
use Rattle.protocol.specs.Machine.{Memory, World, MayStep, after_keeping, effects_after, events_after, next_of}
use Rattle.protocol.specs.Machine.{with_access}
use Rattle.protocol.specs.Machine.{with_eviction, with_fence, with_step}
use Rattle.protocol.specs.declared.UnderWay.{UnderWay}
use Rattle.protocol.specs.invariants.Ledger.{Ledger, asked_call, held_token}
use Rattle.protocol.specs.invariants.Worlds.{Inv, IsCalling, IsReady, ledger_of, record_of_call}
use Rattle.protocol.proofs.Facts.{KnowsNext, access_kept, acting_announced, calling, explained, inv_evicted}
use Rattle.protocol.proofs.Facts.{inv_stepped, is_ready, keep_noted, ledger_after, part_evicted, part_stepped}
use Rattle.protocol.proofs.Facts.{step_noted, step_noted_now, step_row}
use Rattle.interleave.specs.Verdicts.{taken_as}
use Rattle.interleave.proofs.verdicts.Tells.{IsToldOfNumber, comes_announced, own_says, told_in_world, told_on}

-- what the words kept in a machine tell the client
abbrev pub machine_told : World → Client → Told
machine_told w client = told_by w.shape w.memory.kept client.0

-- it is told the same still, or of the call that it has under way
abbrev pub IsToldStill : World → Client → Told → Type 0
IsToldStill w client told =
    (told ≡ machine_told w client)
    ⊎ ((u : UnderWay) × (w.calls client.0 ≡ Some u) × IsToldOfNumber u.begun.number told)

-- what is told of a call that is in the order
said_taken : (order : List Entry) → EachIndex order (λ i. IsNew order i) → (p number : ℕ) (reply : Reply) (x : Told)
    → IsTakenAs order p reply → Says log_kind order p number x → x ≡ told_verdict (taken_as number reply)
said_taken order once p number reply (told_verdict verdict) taken says =
    ap (λ (n : ℕ). told_verdict (record { number = n; outcome = verdict.outcome })) says.0
    ∙ ap (λ (o : Outcome). told_verdict (record { number = number; outcome = o })) (go verdict.outcome says.1)
  where
    go : (outcome : Outcome) → IsOutcome order p outcome → outcome ≡ Taken reply
    go (Taken other) is = ap (λ (r : Reply). Taken r) (one_reply order once p other reply is taken)
    go NotTaken is = absurd (is (in_order_from_taken order p reply taken))
said_taken order once p number reply (told_row row) taken says = absurd says
said_taken order once p number reply told_none taken says = absurd says

module _ (w : World) (inv : Inv w) (log : w.shape.kind ≡ log_kind) where
  pub told_evicted : (p : Place) → w.recovery ≡ None → (client : Client) → client.0 < MAX_CLIENTS
      → IsToldStill w client (machine_told (with_eviction w p) client)
  told_evicted p up client few =
      let v : IsReady w = is_ready w inv up in
      let after : Inv (with_eviction w p) = inv_evicted w inv p in
      told_on w v (with_fence w.memory p) (inr (record { p = p; same = refl })) log (after_keeping w p)
      (comes_announced w v.working log (after_keeping w p) _ (keep_noted w v.working p)) (part_evicted w inv p)
      (explained (with_eviction w p) after).1.is_order.once w.log.events client _ _
      (told_in_world w inv log client few) (told_in_world (with_eviction w p) after log client few)

  module _ (c : Client) (u : UnderWay) (may : MayStep w c u) where
    ready : IsReady w
    ready = is_ready w inv may.ready

    after : Inv (with_step w c u)
    after = inv_stepped w inv c u may

    pub told_stepped : (client : Client) → client.0 < MAX_CLIENTS
        → IsToldStill w client (machine_told (with_step w c u) client)
    told_stepped client few =
        told_on w ready (with_access w.memory (access_of w.shape.kind u.op))
        (access_kept w.memory (access_of w.shape.kind u.op)) log (effects_after w u u.op)
        (comes_announced w ready.working log (effects_after w u u.op) _
        (step_noted w ready.working c.0 u may.waits u.op (calling w ready.working c.0 u may.waits).0))
        (part_stepped w inv c u may) (explained (with_step w c u) after).1.is_order.once
        (events_after w.log.events c (next_of w u)) client _ _
        (told_in_world w inv log client few) (told_in_world (with_step w c u) after log client few)

    -- the step answers the call
    module _ (reply : Reply) (ends : next_of w u ≡ Done reply) where
      stands : IsCalling w.log.events c.0 u
      stands = (calling w ready.working c.0 u may.waits).1

      whose : u.begun.client ≡ c
      whose = ap (λ (t : ℕ). let x : Client = record { 0 = t } in x) stands.who

      pub events_answered : (with_step w c u).log.events ≡ w.log.events ++ return_event c reply ∷ []
      events_answered = ap (λ (a : After Op Reply). events_after w.log.events c a) ends

      pub begins_answered : CallAt w.log.events u.place c u.begun.number u.begun.call
      begins_answered =
          subst (λ (x : Client). CallAt w.log.events u.place x u.begun.number u.begun.call) whose stands.stands

      -- so it is in the order, with the reply
      pub taken_answered : IsTakenAs (order_of (with_step w c u).log.effects) u.place reply
      taken_answered =
          let events : List Event = w.log.events ++ return_event c reply ∷ [] in
          let before : u.place < length w.log.events = slice_get_within w.log.events u.place _ begins_answered in
          let longer : length events ≡ length w.log.events + 1 = length_push w.log.events (return_event c reply) in
          let open_from : IsOpenFrom w.log.events c (length w.log.events) u.place =
          subst (λ (x : Client). IsOpenFrom w.log.events x (length w.log.events) u.place) whose stands.open_from in
          let answers = (explained (with_step w c u) after).1.answers u.place
          (let long = ap (λ (es : List Event). length es) events_answered in omega (arith, before, longer, long)) in
          answers.taken (length w.log.events) c reply
          (subst (λ (es : List Event). BeginsAt es c u.place) (sym events_answered)
          (begins_longer w.log.events (return_event c reply ∷ []) c u.place
          (u.begun.number, (u.begun.call, begins_answered))))
          (subst (λ (es : List Event). IsEnd es c u.place (length w.log.events)) (sym events_answered)
          (record {
            after = before;
            ends = inl (reply, get_last w.log.events (return_event c reply));
            first = no_end_longer w.log.events (return_event c reply ∷ []) c u.place (length w.log.events)
                (omega arith) open_from.no_end;
          }))
          (subst (λ (es : List Event). ReturnAt es (length w.log.events) c reply) (sym events_answered)
          (get_last w.log.events (return_event c reply)))

      -- and it is announced
      named : announcements (with_step w c u).memory.kept c.0 ≡ u.begun.token.0
      named =
          let k : Ledger = ledger_after w.shape w.memory (ledger_of w) c.0 u.op in
          let n : Memory = with_access w.memory (access_of w.shape.kind u.op) in
          let knows : KnowsNext w.shape n k c.0 (Done reply) =
          subst (KnowsNext w.shape n k c.0) ends (step_row w ready.working c u may).knows in
          let told_of : IsToldOf w.shape.kind (asked_call k c.0) =
          subst (λ (y : Kind). IsToldOf y (asked_call k c.0)) (sym log) tt in
          let both = acting_announced w.shape n k c.0 knows.at knows.acting told_of in
          both.1 ∙ sym knows.acting.mine.holds
          ∙ ap (λ (l : Ledger). held_token l c.0) (sym (step_noted_now w ready.working c u may).same)
          ∙ ap (λ (o : Option UnderWay). (record_of_call o).token.0) may.waits

      -- so its client is told the reply
      pub told_answered : c.0 < MAX_CLIENTS
          → machine_told (with_step w c u) c ≡ told_verdict (taken_as u.begun.number reply)
      told_answered few =
          said_taken (order_of (with_step w c u).log.effects) (explained (with_step w c u) after).1.is_order.once
          u.place u.begun.number reply _ taken_answered
          (own_says w ready (with_access w.memory (access_of w.shape.kind u.op))
          (access_kept w.memory (access_of w.shape.kind u.op)) (events_after w.log.events c (next_of w u))
          (order_of (with_step w c u).log.effects) c _ (told_in_world (with_step w c u) after log c few)
          (record { u = u; at = may.waits; named = named }))
