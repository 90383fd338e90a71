-- What is kept is right where it is what each client is told when asked.
use Rattle.std.proofs.Common.{◌≡◌, ℕ, ◌<◌, ◌≤◌, inl, inr, Bool, true, false, not, is_some, if◌then◌else◌, List, Option, Some, None, Result, Ok, Err, slice_get, refl, sym, ap, subst, ◌∙◌, arith}
use Rattle.std.proofs.lemmas.Bool.{cases_lt, lt-ltb}
use Rattle.words.specs.declared.call.Client.{Client}
use Rattle.words.specs.declared.call.Kind.TheVariants.{Log as log_kind}
use Rattle.words.specs.declared.limits.TheConstants.{MAX_CLIENTS}
use Rattle.words.specs.declared.refusal.Refusal.{Refusal}
use Rattle.words.specs.declared.refusal.Refusal.TheVariants.{NoClient, NotReady}
use Rattle.words.specs.declared.told.Told.{Told}
use Rattle.words.specs.declared.told.Told.TheVariants.{None as told_none, Verdict as told_verdict, Row as told_row}
use Rattle.words.specs.declared.told.Verdict.{Verdict}
use Rattle.interleave.specs.LogQueue.{verdict_of}
use Rattle.arena.specs.declared.broker.TheConstants.{SLOTS}
use Rattle.interleave.specs.Queue.{told_in, told_to}
use Rattle.interleave.specs.State.{State}
use Rattle.interleave.specs.Verdicts.{IsRested}
use Rattle.named.specs.Brokers.{Brokered, IsWell, admission, answer_if, has_client, is_down, world_at}
use Rattle.named.specs.Slots.{answered}
use Rattle.named.specs.declared.recovery.BrokerRecovery.{BrokerRecovery}
use Rattle.session.specs.Keeping.{AreKeptAsHeard, told_when_asked, verdict_heard}
use Rattle.session.specs.Sessions.{IsRight, IsSlotRight, kept_in}
use Rattle.session.proofs.calls.Slots.{right_as_told, right_if_untold}
use Rattle.session.proofs.brokers.Worlds.{clients_there, few_there, holds_there, up_there}
use Rattle.named.proofs.Facts.{open_below}

-- what a client is told in a world
abbrev told_at : State → Client → Result Told Refusal
told_at w client = Ok (told_to (told_in w.queue) client)

-- what one hears whose act is admitted so
abbrev heard_by : Result Unit Refusal → Option State → Client → Option Verdict
heard_by admitted o client = verdict_heard (answer_if admitted (answered (λ w. told_at w client) o))

-- a verdict that is told is heard
heard_verdict : (o : Option Told) (told : List Told) (client : Client) → slice_get told client.0 ≡ o
    → verdict_heard (Ok (told_to told client)) ≡ verdict_of o
heard_verdict (Some (told_verdict verdict)) told client e = cc (e)
heard_verdict (Some (told_row row)) told client e = cc (e)
heard_verdict (Some told_none) told client e = cc (e)
heard_verdict None told client e = cc (e)

-- where the slot is closed nothing is heard
heard_closed : (admitted : Result Unit Refusal) (client : Client) → heard_by admitted None client ≡ None
heard_closed (Ok u) client = refl
heard_closed (Err refusal) client = refl

-- nor is anything while the broker recovers
heard_down : (has : Bool) (o : Option State) (client : Client)
    → heard_by (if has then (if true then Err NotReady else Ok tt) else Err NoClient) o client ≡ None
heard_down true o client = refl
heard_down false o client = refl

module _ (b : Brokered) (well : IsWell b) where
  admitted : (client : Client) → b.recovery ≡ None → client.0 < b.counts.clients → admission b client ≡ Ok tt
  admitted client up lt =
      ap (λ (has : Bool). if has then (if is_down b then Err NotReady else Ok tt) else Err NoClient)
      (lt-ltb client.0 b.counts.clients lt)
      ∙ ap (λ (r : Option BrokerRecovery). if is_some r then Err NotReady else Ok tt) up

  -- each client of a ready broker's queue hears what it was told there
  pub heard_there : (slot : ℕ) (w : State) (client : Client) → b.recovery ≡ None → world_at b slot ≡ Some w
      → client.0 < w.shape.clients → told_when_asked b slot client.0 ≡ verdict_of (slice_get (told_in w.queue) client.0)
  heard_there slot w client up here lt =
      let asks : Client = record { 0 = client.0 } in
      let few : client.0 < b.counts.clients = omega (arith, lt, clients_there b well slot w here) in
      ap (λ (a : Result Unit Refusal). heard_by a (world_at b slot) asks) (admitted asks up few)
      ∙ ap (λ (o : Option State). heard_by (Ok tt) o asks) here
      ∙ heard_verdict (slice_get (told_in w.queue) client.0) (told_in w.queue) asks refl

  pub none_closed : (slot client : ℕ) → world_at b slot ≡ None → told_when_asked b slot client ≡ None
  none_closed slot client closed =
      let asks : Client = record { 0 = client } in
      ap (λ (o : Option State). heard_by (admission b asks) o asks) closed ∙ heard_closed (admission b asks) asks

  pub none_down : (slot client : ℕ) → is_down b ≡ true → told_when_asked b slot client ≡ None
  none_down slot client down =
      let asks : Client = record { 0 = client } in
      ap (λ (d : Bool). heard_by (if has_client b asks then (if d then Err NotReady else Ok tt) else Err NoClient)
      (world_at b slot) asks) down ∙ heard_down (has_client b asks) (world_at b slot) asks

module _ (b : Brokered) (well : IsWell b) (kept : List (List (Option Verdict))) (heard : AreKeptAsHeard b kept)
    (beyond : (slot client : ℕ) → MAX_CLIENTS ≤ client → kept_in kept slot client ≡ None) where
  -- nothing is kept where nothing is told
  none_kept : (slot : ℕ) → ((client : ℕ) → told_when_asked b slot client ≡ None) → (client : ℕ)
      → kept_in kept slot client ≡ None
  none_kept slot nothing client = elim (cases_lt slot SLOTS) [
    | inl inside ↦ elim (cases_lt client MAX_CLIENTS) [
      | inl few ↦ heard.each slot client inside few ∙ nothing client
      | inr past ↦ beyond slot client past
    ]
    | inr outside ↦ heard.no_slot slot client outside
  ]

  -- what is kept of each client of a ready broker's queue is what it was told there
  pub kept_there : (slot : ℕ) (w : State) (client : Client) → b.recovery ≡ None → world_at b slot ≡ Some w
      → client.0 < w.shape.clients → kept_in kept slot client.0 ≡ verdict_of (slice_get (told_in w.queue) client.0)
  kept_there slot w client up here lt =
      heard.each slot client.0 (open_below b well slot w here)
      (omega (arith, lt, few_there b well slot w here)) ∙ heard_there b well slot w client up here lt

  -- once the broker is ready, where nobody called since its clients were told
  pub right_heard : b.recovery ≡ None
      → ((slot : ℕ) (w : State) → world_at b slot ≡ Some w → w.shape.kind ≡ log_kind → w.recovery ≡ None → IsRested w)
      → IsRight (record { broker = b; kept = kept })
  right_heard up rests = record {
    well = well;
    slots = λ slot.
        subst (λ (r : Option BrokerRecovery). IsSlotRight (not (is_some r)) (world_at b slot) (kept_in kept slot))
        (sym up) (go slot (world_at b slot) refl);
  }
    where
      go : (slot : ℕ) (o : Option State) → world_at b slot ≡ o → IsSlotRight true o (kept_in kept slot)
      go slot None closed = none_kept slot (λ client. none_closed b well slot client closed)
      go slot (Some w) here =
          let ready = up_there b well slot w here up in
          let holds = holds_there b well slot w here in
          right_as_told w holds ready (λ log. rests slot w here log ready) (kept_in kept slot) (λ client lt.
          kept_there slot w client up here lt)

  -- and while it recovers
  pub right_unheard : is_down b ≡ true
      → ((slot : ℕ) (w : State) → world_at b slot ≡ Some w → w.shape.kind ≡ log_kind → w.recovery ≡ None → IsRested w)
      → IsRight (record { broker = b; kept = kept })
  right_unheard down rests = record {
    well = well;
    slots = λ slot.
        subst (λ (d : Bool). IsSlotRight (not d) (world_at b slot) (kept_in kept slot)) (sym down)
        (go slot (world_at b slot) refl);
  }
    where
      nothing : (slot client : ℕ) → kept_in kept slot client ≡ None
      nothing slot = none_kept slot (λ client. none_down b well slot client down)

      go : (slot : ℕ) (o : Option State) → world_at b slot ≡ o → IsSlotRight false o (kept_in kept slot)
      go slot None closed = nothing slot
      go slot (Some w) here =
          right_if_untold w (holds_there b well slot w here) (kept_in kept slot) (nothing slot) (rests slot w here)

  pub right_asked
      : ((slot : ℕ) (w : State) → world_at b slot ≡ Some w → w.shape.kind ≡ log_kind → w.recovery ≡ None → IsRested w)
      → IsRight (record { broker = b; kept = kept })
  right_asked rests = go b.recovery refl
    where
      go : (o : Option BrokerRecovery) → b.recovery ≡ o → IsRight (record { broker = b; kept = kept })
      go None up = right_heard up rests
      go (Some r) down = right_unheard (ap (λ (o : Option BrokerRecovery). is_some o) down) rests
